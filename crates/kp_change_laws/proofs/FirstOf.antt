-- The first of what ports have: it goes by what is had at each name, where ports stand in order.
use Rattle.std.proofs.Common.{◌≡◌, Bool, true, false, cond, List, [], ◌∷◌, map, Option, Some, None, option_map, option_and_then, slice_get, refl, sym, ap, ◌∙◌}
use Rattle.std.specs.List.{cons_option, filter_map, find, flat_map}
use Rattle.std.specs.Option.{option_or}
use Rattle.std.specs.Ordering.{eq_by_cmp, is_lt}
use Rattle.std.specs.FinMap as finite
use Rattle.std.specs.FinMap.{is_sorted}
use Rattle.std.specs.FinMap.Entries.{below_all, same_entries}
use Rattle.std.proofs.lemmas.Bool.{and_from, and_parts}
use Rattle.std.proofs.lemmas.List.Folds.{find-append}
use Rattle.kp_lemmas.proofs.Booleans.{fact_from_true}
use Rattle.kp_lemmas.proofs.Orders.{one_from_tie}
use Rattle.kp_base.specs.Keys.{port_key_cmp}
use Rattle.kp_base.specs.declared.key.PortKey.{PortKey}
use Rattle.kp_base.proofs.KeyOrder.{port_key_exact, port_key_total}
use Rattle.kp_object_defs.specs.PortInfo.{PortInfo}
use Rattle.kp_object_laws.proofs.OwnEntries.{missing}
use Rattle.kp_table_laws.specs.Laws.{AreInOrder}
use Rattle.kp_change_defs.specs.DoorChanges.{info_named}

-- ---- The first of pieces

module _ {X Y S : Type 0} (p : Y → Bool) (f : Y → S) (g : X → List Y) where
  -- what is found first in the piece of an element
  abbrev pub first_in : X → Option S
  first_in x = option_map f (find p (g x))

  first_or : (o q : Option Y) (rest : List S) → option_map f q ≡ slice_get rest 0
      → option_map f (option_or o q) ≡ slice_get (cons_option (option_map f o) rest) 0
  first_or None q rest h = h
  first_or (Some y) q rest h = refl

  -- what is found first in all pieces
  pub first_found : (xs : List X)
      → option_map f (find p (flat_map g xs)) ≡ slice_get (filter_map first_in xs) 0
  first_found [] = refl
  first_found (x ∷ xs) =
      ap (option_map f) (find-append p (g x) (flat_map g xs))
      ∙ first_or (find p (g x)) (find p (flat_map g xs)) (filter_map first_in xs) (first_found xs)

-- ---- Values of ports in order

module _ {S : Type 0} (h : PortInfo → Option S) where
  -- a port's value under its name
  abbrev entry_of : PortKey → Option S → Option (PortKey × S)
  entry_of key o = option_map (λ s. (key, s)) o

  abbrev entries_of : List PortInfo → List (PortKey × S)
  entries_of infos = filter_map (λ i. entry_of i.key (h i)) infos

  one_value : (key : PortKey) (o : Option S) (es : List (PortKey × S))
      → map (λ e. e.1) (cons_option (entry_of key o) es) ≡ cons_option o (map (λ e. e.1) es)
  one_value key None es = refl
  one_value key (Some s) es = refl

  values_had : (infos : List PortInfo) → map (λ e. e.1) (entries_of infos) ≡ filter_map h infos
  values_had [] = refl
  values_had (i ∷ infos) =
      one_value i.key (h i) (entries_of infos) ∙ ap (cons_option (h i)) (values_had infos)

  below_one : (k key : PortKey) (o : Option S) (es : List (PortKey × S))
      → is_lt (port_key_cmp k key) ≡ true → below_all port_key_cmp k es ≡ true
      → below_all port_key_cmp k (cons_option (entry_of key o) es) ≡ true
  below_one k key None es first rest = rest
  below_one k key (Some s) es first rest = and_from _ _ first rest

  below_had : (k : PortKey) (infos : List PortInfo)
      → below_all port_key_cmp k (map (λ i. (i.key, i)) infos) ≡ true
      → below_all port_key_cmp k (entries_of infos) ≡ true
  below_had k [] below = refl
  below_had k (i ∷ infos) below =
      let parts = and_parts (is_lt (port_key_cmp k i.key))
      (below_all port_key_cmp k (map (λ j. (j.key, j)) infos)) below in
      below_one k i.key (h i) (entries_of infos) parts.0 (below_had k infos parts.1)

  sorted_one : (key : PortKey) (o : Option S) (es : List (PortKey × S))
      → below_all port_key_cmp key es ≡ true → is_sorted port_key_cmp es ≡ true
      → is_sorted port_key_cmp (cons_option (entry_of key o) es) ≡ true
  sorted_one key None es below sorted = sorted
  sorted_one key (Some s) es below sorted = and_from _ _ below sorted

  sorted_had : (infos : List PortInfo) → AreInOrder infos
      → is_sorted port_key_cmp (entries_of infos) ≡ true
  sorted_had [] sorted = refl
  sorted_had (i ∷ infos) sorted =
      let parts = and_parts (below_all port_key_cmp i.key (map (λ j. (j.key, j)) infos))
      (is_sorted port_key_cmp (map (λ j. (j.key, j)) infos)) sorted in
      sorted_one i.key (h i) (entries_of infos) (below_had i.key infos parts.0)
      (sorted_had infos parts.1)

  -- what is found behind the first port, or at it
  found_by : (q : PortKey) (i : PortInfo) (infos : List PortInfo)
      → below_all port_key_cmp i.key (map (λ j. (j.key, j)) infos) ≡ true
      → finite.find port_key_cmp q (entries_of infos) ≡ option_and_then h (info_named infos q)
      → (b : Bool) → eq_by_cmp port_key_cmp q i.key ≡ b → (o : Option S) → h i ≡ o
      → finite.find port_key_cmp q (cons_option (entry_of i.key o) (entries_of infos))
      ≡ option_and_then h (cond b (Some i) (info_named infos q))
  found_by q i infos below rest true is None none =
      rest
      ∙ ap (option_and_then h) (ap (info_named infos) (one_from_tie port_key_exact q i.key is)
      ∙ missing port_key_cmp i.key (map (λ j. (j.key, j)) infos) below)
      ∙ sym none
  found_by q i infos below rest true is (Some s) some =
      ap (λ b. cond b (Some s) (finite.find port_key_cmp q (entries_of infos))) is ∙ sym some
  found_by q i infos below rest false is None none = rest
  found_by q i infos below rest false is (Some s) some =
      ap (λ b. cond b (Some s) (finite.find port_key_cmp q (entries_of infos))) is ∙ rest

  found_had : (q : PortKey) (infos : List PortInfo) → AreInOrder infos
      → finite.find port_key_cmp q (entries_of infos) ≡ option_and_then h (info_named infos q)
  found_had q [] sorted = refl
  found_had q (i ∷ infos) sorted =
      let parts = and_parts (below_all port_key_cmp i.key (map (λ j. (j.key, j)) infos))
      (is_sorted port_key_cmp (map (λ j. (j.key, j)) infos)) sorted in
      found_by q i infos parts.0 (found_had q infos parts.1) _ refl (h i) refl

  -- where each name has the same value, so has the list
  pub same_values_had : (infos others : List PortInfo) → AreInOrder infos → AreInOrder others
      → ((q : PortKey)
      → option_and_then h (info_named infos q) ≡ option_and_then h (info_named others q))
      → filter_map h infos ≡ filter_map h others
  same_values_had infos others sorted sorted_others same =
      sym (values_had infos)
      ∙ ap (map (λ (e : PortKey × S). e.1)) (same_entries port_key_cmp port_key_total port_key_exact
      (entries_of infos) (entries_of others) (fact_from_true (sorted_had infos sorted))
      (fact_from_true (sorted_had others sorted_others)) (λ q.
      found_had q infos sorted ∙ same q ∙ sym (found_had q others sorted_others)))
      ∙ values_had others
