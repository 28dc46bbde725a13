-- Two lists that are left of one list of ports in order by tests are merged into what either test
-- leaves.
use Rattle.std.proofs.Common.{◌≡◌, ◌==◌, Bool, true, false, cond, ◌||◌, List, [], ◌∷◌, length, map}
use Rattle.std.proofs.Common.{filter, T, refl, sym, ap, ◌∙◌, arith}
use Rattle.std.specs.Ordering.{ordering_reverse}
use Rattle.std.specs.Cmp.{tied_itself}
use Rattle.std.proofs.lemmas.Bool.Decides.{nat_tests}
use Rattle.std.specs.FinMap.{is_sorted}
use Rattle.std.specs.FinMap.Entries.{below_all, by_order}
use Rattle.kp_lemmas.proofs.Booleans.{both_facts, fact_from_true, fact_of_both}
use Rattle.kp_lemmas.proofs.Orders.{less_from_fact}
use Rattle.kp_base.specs.Keys.{port_key_cmp}
use Rattle.kp_base.specs.declared.key.PortKey.{PortKey}
use Rattle.kp_base.proofs.KeyOrder.{port_key_total}
use Rattle.kp_object_defs.specs.PortInfo.{PortInfo}
use Rattle.kp_table_laws.specs.Laws.{AreInOrder}
use Rattle.kp_vmap.specs.Merged.{merged, put_among}

abbrev keyed : List PortInfo → List (PortKey × PortInfo)
keyed infos = map (λ i. (i.key, i)) infos

-- a list without others
pub merged_none : (xs : List PortInfo) → merged xs [] ≡ xs
merged_none [] = refl
merged_none (x ∷ xs) = ap (λ rest. x ∷ rest) (merged_none xs)

-- what is left of ports behind one is behind it
below_left : (x : PortInfo) (p : PortInfo → Bool) (xs : List PortInfo)
    → T (below_all port_key_cmp x.key (keyed xs))
    → T (below_all port_key_cmp x.key (keyed (filter p xs)))
below_left x p [] h = tt
below_left x p (y ∷ xs) h =
    let parts = both_facts _ _ h in
    let rest = below_left x p xs parts.1 in
    elim (p y) as
    (λ b. T (below_all port_key_cmp x.key (keyed (cond b (y ∷ filter p xs) (filter p xs)))))
    [ true ↦ fact_of_both _ _ parts.0 rest | false ↦ rest ]

-- a port before all others comes first, if it is in the one list
first_here : (x : PortInfo) (xs ys : List PortInfo) → T (below_all port_key_cmp x.key (keyed ys))
    → merged (x ∷ xs) ys ≡ x ∷ merged xs ys
first_here x xs [] h = refl
first_here x xs (y ∷ ys) h =
    ap (λ o. by_order o (x ∷ merged xs (y ∷ ys)) (x ∷ merged xs ys)
    (y ∷ put_among x (merged xs) ys))
    (less_from_fact (port_key_cmp x.key y.key) (both_facts _ _ h).0)

-- if it is in the other
first_there : (x : PortInfo) (xs ys : List PortInfo) → T (below_all port_key_cmp x.key (keyed xs))
    → merged xs (x ∷ ys) ≡ x ∷ merged xs ys
first_there x [] ys h = refl
first_there x (y ∷ xs) ys h =
    ap (λ o. by_order o (y ∷ merged xs (x ∷ ys)) (y ∷ merged xs ys)
    (x ∷ put_among y (merged xs) ys))
    (port_key_total.antisymm y.key x.key
    ∙ ap ordering_reverse (less_from_fact (port_key_cmp x.key y.key) (both_facts _ _ h).0))

-- and if it is in both, once
first_in_both : (x : PortInfo) (xs ys : List PortInfo) → merged (x ∷ xs) (x ∷ ys) ≡ x ∷ merged xs ys
first_in_both x xs ys =
    ap (λ o. by_order o (x ∷ merged xs (x ∷ ys)) (x ∷ merged xs ys)
    (x ∷ put_among x (merged xs) ys)) (tied_itself port_key_total x.key)

module _ (p q : PortInfo → Bool) where
  by_tests : (x : PortInfo) (xs : List PortInfo) → T (below_all port_key_cmp x.key (keyed xs))
      → merged (filter p xs) (filter q xs) ≡ filter (λ i. p i || q i) xs
      → (a b : Bool)
      → merged (cond a (x ∷ filter p xs) (filter p xs)) (cond b (x ∷ filter q xs) (filter q xs))
      ≡ cond (a || b) (x ∷ filter (λ i. p i || q i) xs) (filter (λ i. p i || q i) xs)
  by_tests x xs h rest true true =
      first_in_both x (filter p xs) (filter q xs) ∙ ap (λ is. x ∷ is) rest
  by_tests x xs h rest true false =
      first_here x (filter p xs) (filter q xs) (below_left x q xs h) ∙ ap (λ is. x ∷ is) rest
  by_tests x xs h rest false true =
      first_there x (filter p xs) (filter q xs) (below_left x p xs h) ∙ ap (λ is. x ∷ is) rest
  by_tests x xs h rest false false = rest

  sorted_merged : (xs : List PortInfo) → T (is_sorted port_key_cmp (keyed xs))
      → merged (filter p xs) (filter q xs) ≡ filter (λ i. p i || q i) xs
  sorted_merged [] h = refl
  sorted_merged (x ∷ xs) h =
      let parts = both_facts _ _ h in
      by_tests x xs parts.0 (sorted_merged xs parts.1) (p x) (q x)

  pub merged_filters : (xs : List PortInfo) → AreInOrder xs
      → merged (filter p xs) (filter q xs) ≡ filter (λ i. p i || q i) xs
  merged_filters xs h = sorted_merged xs (fact_from_true h)

-- where one list is at its end, what is left is the other
pub at_first_end : (xs ys : List PortInfo) → length xs == 0 ≡ true → ys ≡ merged xs ys
at_first_end [] ys h = refl
at_first_end (x ∷ xs) ys h = absurd (grind (arith, nat_tests, h))

pub at_other_end : (xs ys : List PortInfo) → length ys == 0 ≡ true → xs ≡ merged xs ys
at_other_end xs [] h = sym (merged_none xs)
at_other_end xs (y ∷ ys) h = absurd (grind (arith, nat_tests, h))
