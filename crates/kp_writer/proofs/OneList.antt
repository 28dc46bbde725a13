-- Names in order are told by which they are.
use Rattle.std.proofs.Common.{◌≡◌, true≢false, ◌&&◌, Bool, List, [], ◌∷◌, map, filter, filter_map}
use Rattle.std.proofs.Common.{Some, is_some, refl, sym, ap, ◌∙◌}
use Rattle.std.specs.declared.cmp.Ordering.{Ordering}
use Rattle.std.specs.List.{list_any}
use Rattle.std.specs.List.Sorted.{IsStrictlySortedBy}
use Rattle.std.specs.Ordering.{eq_by_cmp}
use Rattle.std.specs.Cmp.{IsTotalOrder}
use Rattle.std.specs.FinMap.{IsAntisymmetric}
use Rattle.std.specs.FinMap.Entries.{is_some-find}
use Rattle.std.proofs.lemmas.List.{map-id}
use Rattle.std.proofs.lemmas.Map.Views.{any-filter_same}
use Rattle.std.proofs.lemmas.Simd.{map-map}
use Rattle.kp_lemmas.proofs.Booleans.{fact_from_true}
use Rattle.kp_lemmas.proofs.Orders.{one_from_tie}
use Rattle.kp_object_defs.specs.Order.{distinct_in_order, in_order}
use Rattle.kp_object_defs.proofs.InOrder.{find-in_order, sorted-in_order}
use Rattle.kp_writer_laws.proofs.KeyLists as entries
use Rattle.kp_writer_laws.proofs.LocalChanges.{same_given}

module _ {K : Type 0} (R : K → K → Ordering) (total : IsTotalOrder R) where
  -- each with itself
  abbrev paired : List K → List (K × K)
  paired ks = map (λ k. (k, k)) ks

  -- names once each in order rise,
  pub distinct_rise : (ks : List K) → IsStrictlySortedBy R (distinct_in_order R ks)
  distinct_rise ks =
      entries.keys_rise R (in_order R (paired ks))
      (fact_from_true (sorted-in_order total (paired ks)))

  -- and are the same ones
  pub distinct_has : (ks : List K) (k : K)
      → list_any (eq_by_cmp R k) (distinct_in_order R ks) ≡ list_any (eq_by_cmp R k) ks
  distinct_has ks k =
      sym (is_some-find R k (in_order R (paired ks)))
      ∙ ap is_some (find-in_order total k (paired ks))
      ∙ is_some-find R k (paired ks)
      ∙ ap (list_any (eq_by_cmp R k)) (map-map (λ (e : K × K). e.0) (λ k. (k, k)) ks ∙ map-id ks)

  module _ (exact : IsAntisymmetric R) where
    -- of names that pass a test a name is one where it is one of all and passes
    pub filter_has : (test : K → Bool) (ks : List K) (k : K)
        → list_any (eq_by_cmp R k) (filter test ks) ≡ (test k && list_any (eq_by_cmp R k) ks)
    filter_has test ks k =
        any-filter_same (eq_by_cmp R k) test (test k)
        (λ l tie. ap test (sym (one_from_tie exact k l tie))) ks

    all_some : (ks : List K) → filter_map Some ks ≡ ks
    all_some [] = refl
    all_some (k ∷ ks) = ap (λ ls. k ∷ ls) (all_some ks)

    -- of names that rise each list with the same ones is one
    pub one_list : (ks ls : List K) → IsStrictlySortedBy R ks → IsStrictlySortedBy R ls
        → ((k : K) → list_any (eq_by_cmp R k) ks ≡ list_any (eq_by_cmp R k) ls) → ks ≡ ls
    one_list ks ls kr lr same =
        sym (all_some ks)
        ∙ same_given R Some exact total ks ls
        (λ k here out. absurd (true≢false (sym here ∙ same k ∙ out)))
        (λ k here out. absurd (true≢false (sym here ∙ sym (same k) ∙ out)))
        kr lr
        ∙ all_some ls
