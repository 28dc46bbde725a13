-- Of ports by name, those that a test leaves, in order.
use Rattle.std.proofs.Common.{◌≡◌, Bool, true, false, cond, List, [], ◌∷◌, map, filter, Option}
use Rattle.std.proofs.Common.{Some, None, is_some, option_and_then, refl, sym, ap, ◌∙◌}
use Rattle.std.specs.FinMap as finite
use Rattle.std.specs.FinMap.{entries, entries-from_sorted, entries_sorted, from_sorted, get}
use Rattle.std.specs.FinMap.{get-entries, get-from_sorted, same_map}
use Rattle.std.specs.FinMap.Entries.{find-where_key, is_sorted-where_key, where_key}
use Rattle.std.specs.List.{AllByRecursion}
use Rattle.kp_lemmas.proofs.Entries.{entries_found}
use Rattle.kp_base.specs.Keys.{port_key_cmp}
use Rattle.kp_base.specs.declared.key.PortKey.{PortKey}
use Rattle.kp_base.proofs.KeyOrder.{port_key_exact, port_key_total}
use Rattle.kp_object_defs.specs.PortInfo.{PortInfo}
use Rattle.kp_vmap.specs.Places.{PortMap}

module _ (p : PortInfo → Bool) where
  -- a port that passes, if there is one
  abbrev left : Option PortInfo → Option PortInfo
  left o = option_and_then (λ i. cond (p i) (Some i) None) o

  module _ (m n : PortMap) (is : (key : PortKey) → get n key ≡ left (get m key)) where
    abbrev keeps : PortKey → Bool
    keeps key = is_some (get n key)

    kept_or_none : (o w : Option PortInfo) → w ≡ left o → w ≡ cond (is_some w) o None
    kept_or_none None w h = h ∙ ap (λ v. cond (is_some v) None None) (sym h)
    kept_or_none (Some i) w h = by (p i) h
      where
        by : (b : Bool) → w ≡ cond b (Some i) None → w ≡ cond (is_some w) (Some i) None
        by true g = g ∙ ap (λ v. cond (is_some v) (Some i) None) (sym g)
        by false g = g ∙ ap (λ v. cond (is_some v) (Some i) None) (sym g)

    kept_entries : entries n ≡ where_key port_key_cmp keeps (entries m)
    kept_entries =
        let es = where_key port_key_cmp keeps (entries m) in
        let sorted = is_sorted-where_key port_key_cmp keeps (entries m) (entries_sorted m) in
        ap entries
        (same_map port_key_total port_key_exact n (from_sorted {R = port_key_cmp} es) (λ q.
        kept_or_none (get m q) (get n q) (is q)
        ∙ ap (λ o. cond (keeps q) o None) (get-entries m q)
        ∙ sym (find-where_key port_key_cmp keeps q
        (λ x tie. ap keeps (sym (port_key_exact q x tie))) (entries m))
        ∙ sym (get-from_sorted port_key_cmp es q sorted)))
        ∙ entries-from_sorted port_key_cmp es sorted

    is_some_if : (b : Bool) (i : PortInfo) → is_some (cond b (Some i) None) ≡ b
    is_some_if true i = refl
    is_some_if false i = refl

    left_values : (es : List (PortKey × PortInfo)) → AllByRecursion (λ e. get m e.0 ≡ Some e.1) es
        → map (λ (e : PortKey × PortInfo). e.1) (where_key port_key_cmp keeps es)
        ≡ filter p (map (λ e. e.1) es)
    left_values [] h = refl
    left_values (e ∷ es) h =
        let same : keeps e.0 ≡ p e.1 = ap is_some (is e.0 ∙ ap left h.0) ∙ is_some_if (p e.1) e.1 in
        ap (λ b. map (λ (f : PortKey × PortInfo). f.1)
        (cond b (e ∷ where_key port_key_cmp keeps es) (where_key port_key_cmp keeps es))) same
        ∙ elim (p e.1) as
        (λ b. map (λ (f : PortKey × PortInfo). f.1)
        (cond b (e ∷ where_key port_key_cmp keeps es) (where_key port_key_cmp keeps es))
        ≡ cond b (e.1 ∷ filter p (map (λ f. f.1) es)) (filter p (map (λ f. f.1) es))) [
          | true ↦ ap (λ rest. e.1 ∷ rest) (left_values es h.1)
          | false ↦ left_values es h.1
        ]

    -- those that pass, in order
    pub values_left : finite.values n ≡ filter p (finite.values m)
    values_left =
        ap (map (λ (e : PortKey × PortInfo). e.1)) kept_entries
        ∙ left_values (entries m) (entries_found port_key_total m)
