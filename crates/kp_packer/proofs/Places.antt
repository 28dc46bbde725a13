-- Wanted endpoints at their places, and the one that an entry of a slice is of.
use Rattle.std.proofs.Common.{◌≡◌, ℕ, zero, suc, ◌+◌, ◌<◌, Bool, true, false, cond, not, ◌&&◌, ◌||◌, List, [], ◌∷◌, ◌++◌, map, length, take, get_or, Option, Some, None, slice_get, slice_set, refl, sym, ap, subst, ◌∙◌, arith, Bor, true≢false}
use Rattle.std.specs.List.{find, list_any}
use Rattle.std.specs.Option.{option_and_then}
use Rattle.std.proofs.lemmas.Bool.{and_parts, or_parts, not-true}
use Rattle.std.proofs.lemmas.Option.{same_Some, slice_get_within}
use Rattle.std.specs.Cmp.Lexicographic.{nat_list_eq_equiv}
use Rattle.kp_base.specs.Net.{same_address}
use Rattle.kp_base.specs.declared.key.ObjectKey.{ObjectKey}
use Rattle.kp_types.specs.declared.slice.SliceEndpoint.{SliceEndpoint}
use Rattle.kp_types.specs.declared.slice.Wanted.{Wanted}
use Rattle.kp_object_defs.specs.Packing.{same_object, same_option, is_entry_of, without_first}
use Rattle.kp_object_defs.specs.PackingLaws.{are_distinct}
use Rattle.kp_object_defs.proofs.SameObjects.{object_exact}
use Rattle.kp_packer.specs.Views.{shown, left_in, place_in, AtOwnPlaces, IsPlaceOf}

some_none : {X : Type 0} {x : X} → Some x ≡ None → ⊥
some_none h = absurd (cc)

-- without the first that passes, a list in which none does stays
pub without_none : {X : Type 0} (p : X → Bool) (xs : List X) → find p xs ≡ None → without_first p xs ≡ xs
without_none p [] h = refl
without_none p (x ∷ xs) h = by (p x) refl (without_none p xs)
  where
    by : (b : Bool) → p x ≡ b → (find p xs ≡ None → without_first p xs ≡ xs) → cond (p x) xs (x ∷ without_first p xs) ≡ x ∷ xs
    by true e rest = absurd (some_none (sym (ap (λ c. cond c (Some x) (find p xs)) e) ∙ h))
    by false e rest = ap (λ c. cond c xs (x ∷ without_first p xs)) e ∙ ap (λ l. x ∷ l) (rest (sym (ap (λ c. cond c (Some x) (find p xs)) e) ∙ h))

module _ (p : Wanted → Bool) where
  -- where no endpoint at a place passes, none is found
  pub none_left : (places : List (Option (Bor Wanted))) → ((i : ℕ) (w : Bor Wanted) → slice_get places i ≡ Some (Some w) → p w.now ≡ false) → find p (left_in places) ≡ None
  none_left [] h = refl
  none_left (None ∷ places) h = none_left places (λ i w at. h (suc i) w at)
  none_left (Some w ∷ places) h =
      ap (λ b. cond b (Some w.now) (find p (left_in places))) (h 0 w refl) ∙ none_left places (λ i v at. h (suc i) v at)

  -- where only the endpoint at the place i passes
  abbrev pub Only : List (Option (Bor Wanted)) → ℕ → Type 0
  Only places i = (j : ℕ) (v : Bor Wanted) → slice_get places j ≡ Some (Some v) → p v.now ≡ true → j ≡ i

  fails : (v : Bor Wanted) (i : ℕ) → (p v.now ≡ true → 0 ≡ suc i) → (b : Bool) → p v.now ≡ b → p v.now ≡ false
  fails v i h true e = absurd (omega (arith, h e))
  fails v i h false e = e

  later : (o : Option (Bor Wanted)) (places : List (Option (Bor Wanted))) (i : ℕ) → Only (o ∷ places) (suc i) → Only places i
  later o places i only = λ j v at fits. omega (arith, only (suc j) v at fits)

  -- it is found
  pub one_left : (places : List (Option (Bor Wanted))) (i : ℕ) (w : Bor Wanted) → slice_get places i ≡ Some (Some w) → p w.now ≡ true → Only places i → find p (left_in places) ≡ Some w.now
  one_left [] i w at fits only = absurd (some_none (sym at))
  one_left (None ∷ places) zero w at fits only = absurd (some_none (sym (same_Some _ _ at)))
  one_left (Some v ∷ places) zero w at fits only =
      let is = same_Some v w (same_Some _ _ at) in
      ap (λ u. cond (p u.now) (Some u.now) (find p (left_in places))) is ∙ ap (λ b. cond b (Some w.now) (find p (left_in places))) fits
  one_left (None ∷ places) (suc i) w at fits only = one_left places i w at fits (later None places i only)
  one_left (Some v ∷ places) (suc i) w at fits only =
      ap (λ b. cond b (Some v.now) (find p (left_in places))) (fails v i (only 0 v refl) (p v.now) refl)
      ∙ one_left places i w at fits (later (Some v) places i only)

  -- and taken off its place
  pub one_taken : (places : List (Option (Bor Wanted))) (i : ℕ) (w : Bor Wanted) → slice_get places i ≡ Some (Some w) → p w.now ≡ true → Only places i → left_in (slice_set places i None) ≡ without_first p (left_in places)
  one_taken [] i w at fits only = absurd (some_none (sym at))
  one_taken (None ∷ places) zero w at fits only = absurd (some_none (sym (same_Some _ _ at)))
  one_taken (Some v ∷ places) zero w at fits only =
      let is = same_Some v w (same_Some _ _ at) in
      sym (ap (λ b. cond b (left_in places) (v.now ∷ without_first p (left_in places))) (ap (λ u. p u.now) is ∙ fits))
  one_taken (None ∷ places) (suc i) w at fits only = one_taken places i w at fits (later None places i only)
  one_taken (Some v ∷ places) (suc i) w at fits only =
      ap (λ l. v.now ∷ l) (one_taken places i w at fits (later (Some v) places i only))
      ∙ sym (ap (λ b. cond b (left_in places) (v.now ∷ without_first p (left_in places))) (fails v i (only 0 v refl) (p v.now) refl))

-- the endpoint at the place of an entry's pod
abbrev pub candidate : List (Bor ObjectKey × ℕ) → List (Option (Bor Wanted)) → Option ObjectKey → Option (Bor Wanted)
candidate entries places pod =
    option_and_then (λ q. option_and_then (λ k. option_and_then (λ o. o) (slice_get places k)) (place_in entries q)) pod

module _ (entries : List (Bor ObjectKey × ℕ)) (places : List (Option (Bor Wanted))) (own : AtOwnPlaces entries places) (e : SliceEndpoint) where
  -- an entry's endpoint stands at the place of the entry's pod
  placed : (pod : Option ObjectKey) (i : ℕ) (w : Bor Wanted) → slice_get places i ≡ Some (Some w) → same_option same_object pod (Some w.now.pod) ≡ true → option_and_then (place_in entries) pod ≡ Some i
  placed None i w at same = absurd (true≢false (sym same))
  placed (Some q) i w at same = ap (place_in entries) (object_exact q w.now.pod same) ∙ (own i w at).stands

  seen : (pod : Option ObjectKey) (i : ℕ) (w : Bor Wanted) → slice_get places i ≡ Some (Some w) → option_and_then (place_in entries) pod ≡ Some i → candidate entries places pod ≡ Some w
  seen None i w at is = absurd (some_none (sym is))
  seen (Some q) i w at is =
      ap (option_and_then (λ k. option_and_then (λ o. o) (slice_get places k))) is ∙ ap (option_and_then (λ o. o)) at

  pub its_place : (i : ℕ) (w : Bor Wanted) → slice_get places i ≡ Some (Some w) → is_entry_of e w.now ≡ true → option_and_then (place_in entries) e.pod ≡ Some i
  its_place i w at fits =
      placed e.pod i w at (and_parts (same_option same_object e.pod (Some w.now.pod)) (same_option same_address e.address w.now.entry.address) fits).0

  pub its_endpoint : (i : ℕ) (w : Bor Wanted) → slice_get places i ≡ Some (Some w) → is_entry_of e w.now ≡ true → candidate entries places e.pod ≡ Some w
  its_endpoint i w at fits = seen e.pod i w at (its_place i w at fits)

  -- there is only one
  pub only_one : (i : ℕ) (w : Bor Wanted) → slice_get places i ≡ Some (Some w) → is_entry_of e w.now ≡ true → Only (is_entry_of e) places i
  only_one i w at fits j v there same = same_Some j i (sym (its_place j v there same) ∙ its_place i w at fits)

  refuted : (w : Bor Wanted) (b : Bool) → is_entry_of e w.now ≡ b → (is_entry_of e w.now ≡ true → ⊥) → is_entry_of e w.now ≡ false
  refuted w true is never = absurd (never is)
  refuted w false is never = is

  -- the endpoint at the place of the entry's pod is the entry's, where the addresses are the same
  pub its_entry : (q : ObjectKey) (i : ℕ) (w : Bor Wanted) → e.pod ≡ Some q → place_in entries q ≡ Some i → slice_get places i ≡ Some (Some w) → same_option same_address e.address w.now.entry.address ≡ true → is_entry_of e w.now ≡ true
  its_entry q i w pod place at same =
      let is = (own i w at).alone q place in
      (λ j. same_option same_object (pod j) (Some w.now.pod) && same j)
      ∙ ap (λ x. same_object x w.now.pod && true) is
      ∙ (λ j. (nat_list_eq_equiv.refl w.now.pod.namespace j && nat_list_eq_equiv.refl w.now.pod.name j) && true)

  -- without one at the place of the pod, the entry is of none that is left
  pub no_candidate : candidate entries places e.pod ≡ None → find (is_entry_of e) (left_in places) ≡ None
  no_candidate none =
      none_left (is_entry_of e) places (λ i w at. refuted w (is_entry_of e w.now) refl (λ fits. some_none (sym (its_endpoint i w at fits) ∙ none)))

  -- where the one at the place of the pod has another address, too
  pub other_address : (v : Bor Wanted) → candidate entries places e.pod ≡ Some v → same_option same_address e.address v.now.entry.address ≡ false → find (is_entry_of e) (left_in places) ≡ None
  other_address v is other =
      none_left (is_entry_of e) places (λ i w at. refuted w (is_entry_of e w.now) refl (λ fits.
      let same = and_parts (same_option same_object e.pod (Some w.now.pod)) (same_option same_address e.address w.now.entry.address) fits in
      let one = same_Some v w (sym is ∙ its_endpoint i w at fits) in
      true≢false (sym same.1 ∙ sym (ap (λ u. same_option same_address e.address u.now.entry.address) one) ∙ other)))

before : (ps : List (Option (Bor Wanted))) (k i : ℕ) (w : Bor Wanted) → slice_get (slice_set ps k None) i ≡ Some (Some w) → slice_get ps i ≡ Some (Some w)
before [] k i w at = at
before (p ∷ ps) zero zero w at = absurd (some_none (sym (same_Some _ _ at)))
before (p ∷ ps) zero (suc i) w at = at
before (p ∷ ps) (suc k) zero w at = at
before (p ∷ ps) (suc k) (suc i) w at = before ps k i w at

-- the endpoints that stay once one was taken off its place
pub own_after : (entries : List (Bor ObjectKey × ℕ)) (places : List (Option (Bor Wanted))) (k : ℕ) → AtOwnPlaces entries places → AtOwnPlaces entries (slice_set places k None)
own_after entries places k own = λ i w at. own i w (before places k i w at)

-- ---- endpoints come to their places

-- one more place
pub left-push : (places : List (Option (Bor Wanted))) (w : Bor Wanted) → left_in (places ++ Some w ∷ []) ≡ left_in places ++ w.now ∷ []
left-push [] w = refl
left-push (None ∷ places) w = left-push places w
left-push (Some v ∷ places) w = ap (λ l. v.now ∷ l) (left-push places w)

pub left-push_none : (places : List (Option (Bor Wanted))) → left_in (places ++ None ∷ []) ≡ left_in places
left-push_none [] = refl
left-push_none (None ∷ places) = left-push_none places
left-push_none (Some v ∷ places) = ap (λ l. v.now ∷ l) (left-push_none places)

-- an element of a list with one more is there before, or is the last
at_push : {A Z : Type 0} (xs : List A) (x : A) (i : ℕ) (y : A) → slice_get (xs ++ x ∷ []) i ≡ Some y → (slice_get xs i ≡ Some y → Z) → (i ≡ length xs → x ≡ y → Z) → Z
at_push [] x zero y at f g = g refl (same_Some _ _ at)
at_push [] x (suc i) y at f g = absurd (some_none (sym at))
at_push (p ∷ xs) x zero y at f g = f at
at_push (p ∷ xs) x (suc i) y at f g = at_push xs x i y at f (λ e. g (ap suc e))

-- no place is beyond these
abbrev pub Within : List (Bor ObjectKey × ℕ) → ℕ → Type 0
Within entries n = (q : ObjectKey) (i : ℕ) → place_in entries q ≡ Some i → i < n

-- a pod that no endpoint so far is of
first_apart : (w : Bor Wanted) (ws : List (Bor Wanted)) (i : ℕ) (x : Bor Wanted) → i < length ws → x ≡ get_or ws i x → list_any (same_object w.now.pod) (map (λ v. v.pod) (shown ws)) ≡ false → same_object w.now.pod x.now.pod ≡ false
first_apart w [] i x lt is none = absurd (omega (arith, lt))
first_apart w (v ∷ ws) zero x lt is none =
    ap (λ u. same_object w.now.pod u.now.pod) is ∙ (or_parts (same_object w.now.pod v.now.pod) _ none).0
first_apart w (v ∷ ws) (suc i) x lt is none =
    first_apart w ws i x (omega (arith, lt)) is (or_parts (same_object w.now.pod v.now.pod) _ none).1

pub pods_apart : (ws : List (Bor Wanted)) (i : ℕ) (x : Bor Wanted) → i < length ws → x ≡ get_or ws i x → are_distinct same_object (map (λ v. v.pod) (shown ws)) ≡ true → list_any (λ v. same_object v.pod x.now.pod) (shown (take i ws)) ≡ false
pods_apart [] i x lt is own = absurd (omega (arith, lt))
pods_apart (w ∷ ws) zero x lt is own = refl
pods_apart (w ∷ ws) (suc i) x lt is own =
    let parts = and_parts (not (list_any (same_object w.now.pod) (map (λ v. v.pod) (shown ws)))) (are_distinct same_object (map (λ v. v.pod) (shown ws))) own in
    (λ j. first_apart w ws i x (omega (arith, lt)) is (not-true _ parts.0) j || pods_apart ws i x (omega (arith, lt)) is parts.1 j)

-- an endpoint that is left has another pod
left_apart : (places : List (Option (Bor Wanted))) (pod : ObjectKey) → list_any (λ v. same_object v.pod pod) (left_in places) ≡ false → (i : ℕ) (w : Bor Wanted) → slice_get places i ≡ Some (Some w) → same_object w.now.pod pod ≡ false
left_apart [] pod none i w at = absurd (some_none (sym at))
left_apart (None ∷ places) pod none zero w at = absurd (some_none (sym (same_Some _ _ at)))
left_apart (None ∷ places) pod none (suc i) w at = left_apart places pod none i w at
left_apart (Some v ∷ places) pod none zero w at =
    ap (λ u. same_object u.now.pod pod) (sym (same_Some v w (same_Some _ _ at))) ∙ (or_parts (same_object v.now.pod pod) _ none).0
left_apart (Some v ∷ places) pod none (suc i) w at = left_apart places pod (or_parts (same_object v.now.pod pod) _ none).1 i w at

module _ (old new : List (Bor ObjectKey × ℕ)) (places : List (Option (Bor Wanted))) (x : Bor Wanted)
    (updates : (q : ObjectKey) → place_in new q ≡ cond (same_object x.now.pod q) (Some (length places)) (place_in old q)) where
  within_by : (b : Bool) (q : ObjectKey) (i : ℕ) → Within old (length places) → cond b (Some (length places)) (place_in old q) ≡ Some i → i < length places + 1
  within_by true q i within is = let same = same_Some _ _ is in omega (arith, same)
  within_by false q i within is = let below = within q i is in omega (arith, below)

  -- the places lie in the list
  pub within_more : Within old (length places) → Within new (length places + 1)
  within_more within = λ q i is. within_by (same_object x.now.pod q) q i within (sym (updates q) ∙ is)

  old_alone : (b : Bool) (q : ObjectKey) (i : ℕ) → i < length places → cond b (Some (length places)) (place_in old q) ≡ Some i → place_in old q ≡ Some i
  old_alone true q i lt is = let same = same_Some _ _ is in absurd (omega (arith, lt, same))
  old_alone false q i lt is = is

  new_alone : (b : Bool) (q : ObjectKey) → same_object x.now.pod q ≡ b → Within old (length places) → cond b (Some (length places)) (place_in old q) ≡ Some (length places) → q ≡ x.now.pod
  new_alone true q same within is = sym (object_exact x.now.pod q same)
  new_alone false q same within is = let below = within q (length places) is in absurd (omega (arith, below))

  apart_back : (a b : ObjectKey) (t : Bool) → same_object a b ≡ t → same_object b a ≡ false → t ≡ false
  apart_back a b true same other =
      absurd (true≢false (sym (ap (same_object b) (object_exact a b same) ∙ (λ j. nat_list_eq_equiv.refl b.namespace j && nat_list_eq_equiv.refl b.name j)) ∙ other))
  apart_back a b false same other = refl

  older : AtOwnPlaces old places → list_any (λ v. same_object v.pod x.now.pod) (left_in places) ≡ false → (i : ℕ) (w : Bor Wanted) → slice_get places i ≡ Some (Some w) → IsPlaceOf new i w.now.pod
  older own none i w here =
      let before = own i w here in
      let other = apart_back x.now.pod w.now.pod (same_object x.now.pod w.now.pod) refl (left_apart places x.now.pod none i w here) in
      let below = slice_get_within places i (Some w) here in
      record {
        stands = updates w.now.pod ∙ ap (λ b. cond b (Some (length places)) (place_in old w.now.pod)) other ∙ before.stands;
        alone = λ q is. before.alone q (old_alone (same_object x.now.pod q) q i below (sym (updates q) ∙ is));
      }

  newer : Within old (length places) → IsPlaceOf new (length places) x.now.pod
  newer within = record {
    stands = updates x.now.pod ∙ ap (λ b. cond b (Some (length places)) (place_in old x.now.pod)) (λ j. nat_list_eq_equiv.refl x.now.pod.namespace j && nat_list_eq_equiv.refl x.now.pod.name j);
    alone = λ q is. new_alone (same_object x.now.pod q) q refl within (sym (updates q) ∙ is);
  }

  -- one more endpoint stands at its place
  pub own_more : AtOwnPlaces old places → Within old (length places) → list_any (λ v. same_object v.pod x.now.pod) (left_in places) ≡ false → AtOwnPlaces new (places ++ Some x ∷ [])
  own_more own within none = λ i w at. at_push places (Some x) i (Some w) at (older own none i w)
      (λ last one. subst (λ k. IsPlaceOf new k w.now.pod) (sym last) (subst (λ u. IsPlaceOf new (length places) u.now.pod) (same_Some x w one) (newer within)))
