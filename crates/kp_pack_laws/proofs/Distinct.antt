-- Lists of which no two elements are the same, by a test that is true at equal elements alone.
use Rattle.std.proofs.Common.{◌≡◌, ℕ, ◌+◌, ◌≤◌, Bool, true, false, cond, not, ◌||◌, List, [], ◌∷◌, ◌++◌, map, take, length, suc, zero, refl, sym, ap, subst, ◌∙◌, arith}
use Rattle.std.specs.List.{filter, flat_map, list_any, AllByRecursion, IsDistinct}
use Rattle.std.specs.Cmp.{IsEquivalence}
use Rattle.std.proofs.Math.Bool.{not-not}
use Rattle.std.proofs.lemmas.Bool.{cond_both, or_parts, or_from, or_left, or_right, and_parts, and_from, not_from_false}
use Rattle.std.proofs.lemmas.Map.Views.{any-filter_same}
use Rattle.kp_object_defs.specs.Order.{first_places}
use Rattle.kp_object_defs.specs.PackingLaws.{are_distinct}
use Rattle.kp_lemmas.proofs.ListFacts.{all_append, all_filter, all_weaker}
use Rattle.kp_pack_laws.proofs.Shuffles.{all_pass, all_split}

module _ {X : Type 0} (p : X → Bool) where
  pub none_pass : (xs : List X) → list_any p xs ≡ false → AllByRecursion (λ x. p x ≡ false) xs
  none_pass [] h = tt
  none_pass (x ∷ xs) h = let parts = or_parts (p x) _ h in (parts.0, none_pass xs parts.1)

  pub any_of_none : (xs : List X) → AllByRecursion (λ x. p x ≡ false) xs → list_any p xs ≡ false
  any_of_none [] all = refl
  any_of_none (x ∷ xs) all = or_from (p x) _ all.0 (any_of_none xs all.1)

module _ {X : Type 0} (same : X → X → Bool) where
  pub distinct_from_test : (xs : List X) → are_distinct same xs ≡ true → IsDistinct same xs
  unfolding IsDistinct
  distinct_from_test [] h = tt
  distinct_from_test (x ∷ xs) h =
      let parts = and_parts (not (list_any (same x) xs)) (are_distinct same xs) h in
      (none_pass _ xs (sym (not-not _) ∙ ap not parts.0), distinct_from_test xs parts.1)

  pub test_from_distinct : (xs : List X) → IsDistinct same xs → are_distinct same xs ≡ true
  unfolding IsDistinct
  test_from_distinct [] d = refl
  test_from_distinct (x ∷ xs) d =
      and_from _ _ (not_from_false _ (any_of_none _ xs d.0)) (test_from_distinct xs d.1)

  pub distinct_filter : (p : X → Bool) (xs : List X) → IsDistinct same xs → IsDistinct same (filter p xs)
  unfolding IsDistinct
  distinct_filter p [] d = tt
  distinct_filter p (x ∷ xs) d =
      let rest = distinct_filter p xs d.1 in
      cond_both (p x) _ _ (IsDistinct same)
      (λ e. (all_filter (λ y. same x y ≡ false) p xs d.0, rest)) (λ e. rest)

  pub apart_mapped : {Y : Type 0} (k : X) (h : Y → X) (p : Y → Bool) (ys : List Y) → AllByRecursion (λ y. same k y ≡ false) (map h ys) → AllByRecursion (λ y. same k y ≡ false) (map h (filter p ys))
  apart_mapped k h p [] all = tt
  apart_mapped k h p (y ∷ ys) all =
      let rest = apart_mapped k h p ys all.1 in
      cond_both (p y) _ _
      (λ zs. AllByRecursion (λ z. same k z ≡ false) (map h zs)) (λ e. (all.0, rest)) (λ e. rest)

  -- what a filter leaves of elements whose names differ
  pub distinct_mapped : {Y : Type 0} (h : Y → X) (p : Y → Bool) (ys : List Y) → IsDistinct same (map h ys) → IsDistinct same (map h (filter p ys))
  unfolding IsDistinct
  distinct_mapped h p [] d = tt
  distinct_mapped h p (y ∷ ys) d =
      let rest = distinct_mapped h p ys d.1 in
      cond_both (p y) _ _ (λ zs. IsDistinct same (map h zs))
      (λ e. (apart_mapped (h y) h p ys d.0, rest)) (λ e. rest)

  apart_joined : (k : X) (xs ys : List X) → AllByRecursion (λ y. same k y ≡ false) xs → AllByRecursion (λ y. same k y ≡ false) ys → AllByRecursion (λ y. same k y ≡ false) (xs ++ ys)
  apart_joined k [] ys a b = b
  apart_joined k (x ∷ xs) ys a b = (a.0, apart_joined k xs ys a.1 b)

  pub distinct_joined : (xs ys : List X) → IsDistinct same xs → IsDistinct same ys → AllByRecursion (λ x. AllByRecursion (λ y. same x y ≡ false) ys) xs → IsDistinct same (xs ++ ys)
  unfolding IsDistinct
  distinct_joined [] ys a b apart = b
  distinct_joined (x ∷ xs) ys a b apart = (apart_joined x xs ys a.0 apart.0, distinct_joined xs ys a.1 b apart.1)

  distinct_parts : (xs ys : List X) → IsDistinct same (xs ++ ys)
      → IsDistinct same xs × IsDistinct same ys
      × AllByRecursion (λ x. AllByRecursion (λ y. same x y ≡ false) ys) xs
  unfolding IsDistinct
  distinct_parts [] ys d = (tt, d, tt)
  distinct_parts (x ∷ xs) ys d =
      let apart = all_split (λ y. same x y ≡ false) xs ys d.0 in
      let rest = distinct_parts xs ys d.1 in
      ((apart.0, rest.0), rest.1, (apart.1, rest.2))

  module _ {Y : Type 0} (f : Y → List X) (p : Y → Bool) where
    all_filtered : (P : X → Type 0) (ys : List Y) → AllByRecursion P (flat_map f ys)
        → AllByRecursion P (flat_map f (filter p ys))
    all_filtered P [] all = tt
    all_filtered P (y ∷ ys) all =
        let parts = all_split P (f y) _ all in
        let rest = all_filtered P ys parts.1 in
        cond_both (p y) _ _ (λ zs. AllByRecursion P (flat_map f zs))
        (λ e. all_append P (f y) _ parts.0 rest) (λ e. rest)

    -- the pieces of some elements, where those of all differ
    pub distinct_filtered : (ys : List Y) → IsDistinct same (flat_map f ys)
        → IsDistinct same (flat_map f (filter p ys))
    distinct_filtered [] d = d
    distinct_filtered (y ∷ ys) d =
        let parts = distinct_parts (f y) _ d in
        let rest = distinct_filtered ys parts.1 in
        cond_both (p y) _ _ (λ zs. IsDistinct same (flat_map f zs))
        (λ e. distinct_joined (f y) _ parts.0 rest
        (all_weaker _ _ (λ x apart. all_filtered (λ z. same x z ≡ false) ys apart) (f y) parts.2))
        (λ e. rest)

  pub all_taken : (P : X → Type 0) (n : ℕ) (xs : List X) → AllByRecursion P xs → AllByRecursion P (take n xs)
  all_taken P zero xs all = tt
  all_taken P (suc n) [] all = tt
  all_taken P (suc n) (x ∷ xs) all = (all.0, all_taken P n xs all.1)

  pub distinct_taken : (n : ℕ) (xs : List X) → IsDistinct same xs → IsDistinct same (take n xs)
  unfolding IsDistinct
  distinct_taken zero xs d = tt
  distinct_taken (suc n) [] d = tt
  distinct_taken (suc n) (x ∷ xs) d = (all_taken (λ y. same x y ≡ false) n xs d.0, distinct_taken n xs d.1)

-- each element finds itself
pub each_there : {X : Type 0} (same : X → X → Bool) (laws : IsEquivalence same) (xs : List X)
    → AllByRecursion (λ x. list_any (same x) xs ≡ true) xs
each_there same laws [] = tt
each_there same laws (x ∷ xs) = (
  or_left (same x x) (list_any (same x) xs) (laws.refl x),
  all_weaker _ _ (λ y h. or_right (same y x) (list_any (same y) xs) h) xs (each_there same laws xs),
)

-- ---- by a test that is true at equal elements alone

module _ {X : Type 0} (same : X → X → Bool) (laws : IsEquivalence same) (exact : (x y : X) → same x y ≡ true → x ≡ y) where
  -- elements in their first places differ
  pub first_places_differ : (xs : List X) → IsDistinct same (first_places same xs)
  unfolding IsDistinct
  first_places_differ [] = tt
  first_places_differ (x ∷ xs) = (apart _, distinct_filter same (λ y. not (same x y)) _ (first_places_differ xs))
    where
      apart : (ys : List X) → AllByRecursion (λ z. same x z ≡ false) (filter (λ z. not (same x z)) ys)
      apart [] = tt
      apart (y ∷ ys) =
          let others = filter (λ z. not (same x z)) ys in
          cond_both (not (same x y)) (y ∷ others) others (AllByRecursion (λ z. same x z ≡ false))
          (λ e. (sym (not-not _) ∙ ap not e, apart ys)) (λ e. apart ys)

  -- and each element has one there
  step : (k x : X) (xs : List X) → list_any (same k) (first_places same xs) ≡ list_any (same k) xs → (b : Bool) → same k x ≡ b
      → (b || list_any (same k) (filter (λ y. not (same x y)) (first_places same xs))) ≡ (b || list_any (same k) xs)
  step k x xs rest true e = refl
  step k x xs rest false e =
      any-filter_same _ (λ y. not (same x y)) true (λ y t. not_from_false _ (subst (λ z. same x z ≡ false) (exact k y t) (laws.symm x k ∙ e))) _ ∙ rest

  pub first_places_find : (k : X) (xs : List X) → list_any (same k) (first_places same xs) ≡ list_any (same k) xs
  first_places_find k [] = refl
  first_places_find k (x ∷ xs) = step k x xs (first_places_find k xs) _ refl

  -- of elements that differ one at most is as another
  others : (x : X) (xs : List X) → AllByRecursion (λ y. same x y ≡ false) xs → AllByRecursion (λ y. not (same y x) ≡ true) xs
  others x [] all = tt
  others x (y ∷ ys) all = (not_from_false _ (laws.symm y x ∙ all.0), others x ys all.1)

  pub one_at_most : (k : X) (xs : List X) → IsDistinct same xs → length xs ≤ 1 + length (filter (λ y. not (same y k)) xs)
  unfolding IsDistinct
  one_at_most k [] d = omega arith
  one_at_most k (x ∷ xs) d =
      let less = filter (λ y. not (same y k)) xs in
      let rest = one_at_most k xs d.1 in
      cond_both (not (same x k)) (x ∷ less) less (λ ys. suc (length xs) ≤ 1 + length ys)
      (λ e. omega arith) (λ e. let is : x ≡ k = exact x k (sym (not-not _) ∙ ap not e) in
      let all = all_pass (λ y. not (same y k)) xs
      (subst (λ z. AllByRecursion (λ y. not (same y z) ≡ true) xs) is (others x xs d.0)) in
      omega (arith, ap length all))

  two_filters : (p q : X → Bool) (xs : List X) → filter (λ x. not (q x)) (filter (λ x. not (p x)) xs) ≡ filter (λ x. not (p x || q x)) xs
  two_filters p q [] = refl
  two_filters p q (x ∷ xs) = by (p x) (q x) refl (two_filters p q xs)
    where
      by : (b c : Bool) → q x ≡ c → filter (λ y. not (q y)) (filter (λ y. not (p y)) xs) ≡ filter (λ y. not (p y || q y)) xs
          → filter (λ y. not (q y)) (cond (not b) (x ∷ filter (λ y. not (p y)) xs) (filter (λ y. not (p y)) xs)) ≡ cond (not (b || c)) (x ∷ filter (λ y. not (p y || q y)) xs) (filter (λ y. not (p y || q y)) xs)
      by true c e rest = rest
      by false true e rest = ap (λ b. cond (not b) (x ∷ filter (λ y. not (q y)) (filter (λ y. not (p y)) xs)) (filter (λ y. not (q y)) (filter (λ y. not (p y)) xs))) e ∙ rest
      by false false e rest = ap (λ b. cond (not b) (x ∷ filter (λ y. not (q y)) (filter (λ y. not (p y)) xs)) (filter (λ y. not (q y)) (filter (λ y. not (p y)) xs))) e ∙ ap (λ ys. x ∷ ys) rest

  -- of elements that differ as many at most are in a list as it is long
  pub enough_others : (ks xs : List X) → IsDistinct same xs → length xs ≤ length ks + length (filter (λ x. not (list_any (same x) ks)) xs)
  enough_others [] xs d =
      omega (arith, ap length (all_pass (λ x. not (list_any (same x) [])) xs (everything xs)))
    where
      everything : (ys : List X) → AllByRecursion (λ y. true ≡ true) ys
      everything [] = tt
      everything (y ∷ ys) = (refl, everything ys)
  enough_others (k ∷ ks) xs d =
      let less = filter (λ y. not (same y k)) xs in
      let rest = enough_others ks less (distinct_filter same (λ y. not (same y k)) xs d) in
      omega (arith, rest, one_at_most k xs d, ap length (two_filters (λ x. same x k) (λ x. list_any (same x) ks) xs))
