-- Ports by name that are under their own names stand in order, and no more are there than entries
-- were kept.
use Rattle.std.proofs.Common.{◌≡◌, ℕ, ◌+◌, ◌≤◌, Bool, true, false, cond, List, [], ◌∷◌, map, length}
use Rattle.std.proofs.Common.{Some, refl, ap, ◌∙◌, arith}
use Rattle.std.specs.FinMap as finite
use Rattle.std.specs.FinMap.{contains_key, entries, entries_sorted, from_entries, get, is_sorted}
use Rattle.std.specs.FinMap.{len, len-empty, len-entries, len-insert}
use Rattle.std.specs.List.{AllByRecursion}
use Rattle.std.proofs.lemmas.List.{length-map}
use Rattle.kp_lemmas.proofs.Booleans.{true_from_fact}
use Rattle.kp_lemmas.proofs.Entries.{entries_found}
use Rattle.kp_lemmas.proofs.ListFacts.{all_weaker}
use Rattle.kp_base.specs.Keys.{port_key_cmp}
use Rattle.kp_base.specs.declared.key.PortKey.{PortKey}
use Rattle.kp_base.proofs.KeyOrder.{port_key_total}
use Rattle.kp_object_defs.specs.PortInfo.{PortInfo}
use Rattle.kp_table_laws.specs.Laws.{AreInOrder}
use Rattle.kp_vmap.specs.Places.{PortMap}

under_names : (es : List (PortKey × PortInfo)) → AllByRecursion (λ e. e.1.key ≡ e.0) es
    → map (λ i. (i.key, i)) (map (λ (e : PortKey × PortInfo). e.1) es) ≡ es
under_names [] h = refl
under_names (e ∷ es) h = λ i. (h.0 i, e.1) ∷ under_names es h.1 i

-- ports in order of their names
pub values_in_order : (m : PortMap)
    → ((key : PortKey) (i : PortInfo) → get m key ≡ Some i → i.key ≡ key)
    → AreInOrder (finite.values m)
values_in_order m own =
    ap (is_sorted port_key_cmp)
    (under_names (entries m)
    (all_weaker (λ e. get m e.0 ≡ Some e.1) (λ e. e.1.key ≡ e.0) (λ e h. own e.0 e.1 h) (entries m)
    (entries_found port_key_total m)))
    ∙ true_from_fact _ (entries_sorted m)

one_at_most : (b : Bool) (n : ℕ) → cond b n (n + 1) ≤ n + 1
one_at_most true n = omega arith
one_at_most false n = omega arith

len_at_most : (es : List (PortKey × PortInfo))
    → len (from_entries {R = port_key_cmp} es) ≤ length es
len_at_most [] =
    let none : len (from_entries {X = PortInfo} {R = port_key_cmp} []) ≡ 0 =
    len-empty port_key_cmp PortInfo in
    omega (arith, none)
len_at_most (e ∷ es) =
    omega (
      arith,
      len-insert port_key_total (from_entries es) e.0 e.1,
      one_at_most (contains_key (from_entries {R = port_key_cmp} es) e.0)
          (len (from_entries {R = port_key_cmp} es)),
      len_at_most es,
    )

-- no more ports than entries
pub few_values : (es : List (PortKey × PortInfo))
    → length (finite.values (from_entries {R = port_key_cmp} es)) ≤ length es
few_values es =
    omega (
      arith,
      length-map (entries (from_entries {R = port_key_cmp} es)) (λ e. e.1),
      len-entries (from_entries {R = port_key_cmp} es),
      len_at_most es,
    )
