-- Entries in the order of their keys: those of a list, and each key once.
use Rattle.std.proofs.Common.{◌≡◌, ◌⊎◌, inl, inr, List, [], ◌∷◌, map, Contains, is_some, refl, sym, ap, subst, ◌∙◌, T}
use Rattle.std.specs.declared.cmp.Ordering.{Ordering}
use Rattle.std.specs.declared.cmp.Ordering.TheVariants.{Less, Equal, Greater}
use Rattle.std.specs.List.{list_any}
use Rattle.std.specs.Ordering.{eq_by_cmp, is_lt}
use Rattle.std.specs.Cmp.{IsTotalOrder, eq_by_cmp_equiv, tied_itself}
use Rattle.std.specs.FinMap.{IsAntisymmetric, put}
use Rattle.std.specs.FinMap.Entries.{by_order, below_all, is_some-find, is_sorted}
use Rattle.std.proofs.lemmas.List.{map-id}
use Rattle.std.proofs.lemmas.Map.Views.{Contains-from_any, list_any-from_Contains}
use Rattle.std.proofs.lemmas.Simd.{map-map}
use Rattle.kp_lemmas.proofs.Booleans.{both_facts}
use Rattle.kp_lemmas.proofs.Members.{first_in, later_in, none_in, in_cases}
use Rattle.kp_lemmas.proofs.Orders.{one_from_tie}
use Rattle.kp_object_defs.specs.Order.{distinct_in_order, in_order}
use Rattle.kp_object_defs.proofs.InOrder.{find-in_order}

module _ {K X : Type 0} (R : K → K → Ordering) (exact : IsAntisymmetric R) where
  put_row : (k : K) (v : X) (e : K × X) (es more : List (K × X)) (f : K × X)
      → (Contains more f → ((k, v) ≡ f) ⊎ Contains es f)
      → (o : Ordering) → R k e.0 ≡ o → Contains (by_order o ((k, v) ∷ e ∷ es) ((e.0, v) ∷ es)
      (e ∷ more)) f → ((k, v) ≡ f) ⊎ Contains (e ∷ es) f
  put_row k v e es more f h Less t c = in_cases f (k, v) (e ∷ es) c
  put_row k v e es more f h Equal t c =
      elim (in_cases f _ es c) [
        | inl d ↦ inl (ap (λ q. (q, v)) (exact k e.0 t) ∙ d)
        | inr d ↦ inr (later_in f e es d)
      ]
  put_row k v e es more f h Greater t c =
      elim (in_cases f e more c) [
        | inl d ↦ inr (subst (λ g. Contains (e ∷ es) g) d (first_in e es))
        | inr d ↦ elim (h d) [ inl q ↦ inl q | inr q ↦ inr (later_in f e es q) ]
      ]

  from_put : (k : K) (v : X) (es : List (K × X)) (f : K × X) → Contains (put R k v es) f
      → ((k, v) ≡ f) ⊎ Contains es f
  from_put k v [] f c = in_cases f (k, v) [] c
  from_put k v (e ∷ es) f c = put_row k v e es _ f (from_put k v es f) _ refl c

  -- each of the entries in order is an entry of the list
  pub from_in_order : (es : List (K × X)) (f : K × X) → Contains (in_order R es) f → Contains es f
  from_in_order [] f c = c
  from_in_order (e ∷ es) f c =
      elim (from_put e.0 e.1 _ f c) [
        | inl d ↦ subst (λ g. Contains (e ∷ es) g) d (first_in e es)
        | inr d ↦ later_in f e es (from_in_order es f d)
      ]

not_below : {K : Type 0} {R : K → K → Ordering} → IsTotalOrder R → (j k : K) → j ≡ k
    → T (is_lt (R j k)) → ⊥
not_below {R} total j k same h =
    subst (λ o. T (is_lt o)) (ap (λ i. R i k) same ∙ tied_itself total k) h

module _ {K X : Type 0} {R : K → K → Ordering} (total : IsTotalOrder R) where
  below_less : (k : K) (es : List (K × X)) (f : K × X) → T (below_all R k es) → Contains es f
      → T (is_lt (R k f.0))
  below_less k [] f h c = absurd (none_in f c)
  below_less k (e ∷ es) f h c =
      let parts = both_facts _ _ h in
      elim (in_cases f e es c) [
        | inl d ↦ subst (λ (g : K × X). T (is_lt (R k g.0))) d parts.0
        | inr d ↦ below_less k es f parts.1 d
      ]

  -- sorted entries have each key once
  pub one_sorted : (es : List (K × X)) → T (is_sorted R es) → (e f : K × X) → Contains es e
      → Contains es f → e.0 ≡ f.0 → e ≡ f
  one_sorted [] h e f ce cf same = absurd (none_in e ce)
  one_sorted (g ∷ es) h e f ce cf same =
      let parts = both_facts _ _ h in
      elim (in_cases e g es ce) [
        | inl d ↦ elim (in_cases f g es cf) [
          | inl t ↦ sym d ∙ t
          | inr c ↦
              absurd (not_below total g.0 f.0 (ap (λ (p : K × X). p.0) d ∙ same)
              (below_less g.0 es f parts.0 c))
        ]
        | inr c ↦ elim (in_cases f g es cf) [
          | inl t ↦
              absurd (not_below total g.0 e.0 (ap (λ (p : K × X). p.0) t ∙ sym same)
              (below_less g.0 es e parts.0 c))
          | inr d ↦ one_sorted es parts.1 e f c d same
        ]
      ]

module _ {K : Type 0} {R : K → K → Ordering} (total : IsTotalOrder R) where
  -- a key is found among the elements in order where it is found among the elements
  pub found_distinct : (q : K) (ks : List K)
      → list_any (eq_by_cmp R q) (distinct_in_order R ks) ≡ list_any (eq_by_cmp R q) ks
  found_distinct q ks =
      let pairs : List (K × K) = map (λ k. (k, k)) ks in
      sym (is_some-find R q (in_order R pairs))
      ∙ ap is_some (find-in_order total q pairs)
      ∙ is_some-find R q pairs
      ∙ ap (list_any (eq_by_cmp R q)) (map-map (λ (e : K × K). e.0) (λ k. (k, k)) ks ∙ map-id ks)

  module _ (exact : IsAntisymmetric R) where
    -- each element is among the elements in order
    pub in_distinct : (ks : List K) (k : K) → Contains ks k → Contains (distinct_in_order R ks) k
    in_distinct ks k c = Contains-from_any (one_from_tie exact) k (distinct_in_order R ks)
        (found_distinct k ks ∙ list_any-from_Contains (eq_by_cmp_equiv total) k ks c)

    -- and each of those is an element
    pub from_distinct : (ks : List K) (k : K) → Contains (distinct_in_order R ks) k → Contains ks k
    from_distinct ks k c = Contains-from_any (one_from_tie exact) k ks
        (sym (found_distinct k ks)
        ∙ list_any-from_Contains (eq_by_cmp_equiv total) k (distinct_in_order R ks) c)
