-- The names of ports that pass a test, in order.
use Rattle.std.proofs.Common.{◌≡◌, Bool, true, false, cond, List, [], ◌∷◌, map, filter, Option, Some, None, refl, sym, ap, ◌∙◌, T}
use Rattle.std.specs.Ordering.{eq_by_cmp, is_lt}
use Rattle.std.specs.FinMap as finite
use Rattle.std.specs.FinMap.{is_sorted}
use Rattle.std.specs.FinMap.Entries.{below_all, same_entries}
use Rattle.kp_lemmas.proofs.Booleans.{both_facts, fact_of_both, fact_from_true}
use Rattle.kp_lemmas.proofs.Orders.{one_from_tie}
use Rattle.kp_base.specs.Keys.{port_key_cmp}
use Rattle.kp_base.specs.declared.key.PortKey.{PortKey}
use Rattle.kp_base.proofs.KeyOrder.{port_key_total, port_key_exact}
use Rattle.kp_object_defs.specs.Order.{distinct_in_order, in_order}
use Rattle.kp_object_defs.proofs.InOrder.{find-in_order, sorted-in_order}

module _ (kept : PortKey → Bool) where
  abbrev Pairs : Type 0
  Pairs = List (PortKey × PortKey)

  abbrev left : Pairs → Pairs
  left es = filter (λ e. kept e.0) es

  found_left : (q : PortKey) (es : Pairs) → finite.find port_key_cmp q (left es) ≡ cond (kept q) (finite.find port_key_cmp q es) None
  found_left q [] = by (kept q)
    where
      by : (b : Bool) → ◌≡◌ {A = Option PortKey} None (cond b None None)
      by true = refl
      by false = refl
  found_left q (e ∷ es) = by (kept e.0) (eq_by_cmp port_key_cmp q e.0) refl refl (found_left q es)
    where
      by : (k t : Bool) → kept e.0 ≡ k → eq_by_cmp port_key_cmp q e.0 ≡ t → finite.find port_key_cmp q (left es) ≡ cond (kept q) (finite.find port_key_cmp q es) None → finite.find port_key_cmp q (cond k (e ∷ left es) (left es)) ≡ cond (kept q) (cond t (Some e.1) (finite.find port_key_cmp q es)) None
      by true true is same rest =
          ap (λ t. cond t (Some e.1) (finite.find port_key_cmp q (left es))) same
          ∙ ap (λ b. cond b (Some e.1) None) (sym (ap kept (one_from_tie port_key_exact q e.0 same) ∙ is))
      by true false is same rest = ap (λ t. cond t (Some e.1) (finite.find port_key_cmp q (left es))) same ∙ rest
      by false true is same rest =
          rest
          ∙ ap (λ b. cond b (finite.find port_key_cmp q es) None) (ap kept (one_from_tie port_key_exact q e.0 same) ∙ is)
          ∙ ap (λ b. cond b (Some e.1) None) (sym (ap kept (one_from_tie port_key_exact q e.0 same) ∙ is))
      by false false is same rest = rest

  below_left : (k : PortKey) (es : Pairs) → T (below_all port_key_cmp k es) → T (below_all port_key_cmp k (left es))
  below_left k [] h = tt
  below_left k (e ∷ es) h =
      let both = both_facts (is_lt (port_key_cmp k e.0)) (below_all port_key_cmp k es) h in
      let rest = below_left k es both.1 in
      elim (kept e.0) as (λ b. T (below_all port_key_cmp k (cond b (e ∷ left es) (left es)))) [
        | true ↦ fact_of_both (is_lt (port_key_cmp k e.0)) (below_all port_key_cmp k (left es)) both.0 rest
        | false ↦ rest
      ]

  sorted_left : (es : Pairs) → T (is_sorted port_key_cmp es) → T (is_sorted port_key_cmp (left es))
  sorted_left [] h = tt
  sorted_left (e ∷ es) h =
      let both = both_facts (below_all port_key_cmp e.0 es) (is_sorted port_key_cmp es) h in
      let rest = sorted_left es both.1 in
      elim (kept e.0) as (λ b. T (is_sorted port_key_cmp (cond b (e ∷ left es) (left es)))) [
        | true ↦ fact_of_both (below_all port_key_cmp e.0 (left es)) (is_sorted port_key_cmp (left es)) (below_left e.0 es both.0) rest
        | false ↦ rest
      ]

  order_left : (es : Pairs) → in_order port_key_cmp (left es) ≡ left (in_order port_key_cmp es)
  order_left es =
      same_entries port_key_cmp port_key_total port_key_exact (in_order port_key_cmp (left es)) (left (in_order port_key_cmp es))
      (fact_from_true (sorted-in_order port_key_total (left es)))
      (sorted_left (in_order port_key_cmp es) (fact_from_true (sorted-in_order port_key_total es)))
      (λ q.
      find-in_order port_key_total q (left es)
      ∙ found_left q es
      ∙ ap (λ o. cond (kept q) o None) (sym (find-in_order port_key_total q es))
      ∙ sym (found_left q (in_order port_key_cmp es)))

  paired : (ks : List PortKey) → left (map (λ k. (k, k)) ks) ≡ map (λ k. (k, k)) (filter kept ks)
  paired [] = refl
  paired (k ∷ ks) =
      elim (kept k) as (λ b. cond b ((k, k) ∷ left (map (λ k. (k, k)) ks)) (left (map (λ k. (k, k)) ks)) ≡ map (λ k. (k, k)) (cond b (k ∷ filter kept ks) (filter kept ks))) [
        | true ↦ ap (λ rest. (k, k) ∷ rest) (paired ks)
        | false ↦ paired ks
      ]

  names_left : (es : Pairs) → map (λ e. e.0) (left es) ≡ filter kept (map (λ e. e.0) es)
  names_left [] = refl
  names_left (e ∷ es) =
      elim (kept e.0) as (λ b. map (λ e. e.0) (cond b (e ∷ left es) (left es)) ≡ cond b (e.0 ∷ filter kept (map (λ e. e.0) es)) (filter kept (map (λ e. e.0) es))) [
        | true ↦ ap (λ rest. e.0 ∷ rest) (names_left es)
        | false ↦ names_left es
      ]

  -- the names that are kept, in order
  pub distinct_kept : (ks : List PortKey) → distinct_in_order port_key_cmp (filter kept ks) ≡ filter kept (distinct_in_order port_key_cmp ks)
  distinct_kept ks =
      ap (λ es. map (λ e. e.0) (in_order port_key_cmp es)) (sym (paired ks))
      ∙ ap (map (λ e. e.0)) (order_left (map (λ k. (k, k)) ks))
      ∙ names_left (in_order port_key_cmp (map (λ k. (k, k)) ks))
