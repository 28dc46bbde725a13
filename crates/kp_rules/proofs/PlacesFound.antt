-- A search for a place of rules, in a list of their places in order.
use Rattle.std.proofs.Common.{◌≡◌, ◌≤◌, ◌<◌, ◌+◌, ◌&&◌, ◌||◌, ◌==◌, ℕ, zero, suc, Bool, true, false, List, [], ◌∷◌, length, Option, Some, None, slice_get, slice_index_or, nat_lt, refl, sym, ap, ◌∙◌, arith}
use Rattle.std.specs.List.{filter_map, cons_option, enumerate_from, list_any}
use Rattle.std.specs.List.Sorted.{IsPartitionPoint}
use Rattle.std.proofs.lemmas.Bool.{false≢true, eqb-true, eq-eqb, ltb-true, ltb-false, false_from_ne_true, or_from}
use Rattle.std.proofs.lemmas.List.Folds.{Any-from_list_any, list_any_at}
use Rattle.kp_types.specs.declared.rule.Rule.{Rule}
use Rattle.kp_rules.specs.Destinations.{next_place}
use Rattle.kp_rules.proofs.NextPlaces.{passes_at, least_is, none_is}

-- ---- the places of rules that pass a test, by a test of these places

-- whether there is an element that passes
abbrev pub passes : {X : Type 0} → (X → Bool) → Option X → Bool
passes test None = false
passes test (Some x) = test x

any_consed : {X : Type 0} (test : X → Bool) (o : Option X) (xs : List X) → list_any test (cons_option o xs) ≡ (passes test o || list_any test xs)
any_consed test None xs = refl
any_consed test (Some x) xs = refl

module _ {X : Type 0} (place : ℕ × Rule → Option X) (is_at : ℕ → X → Bool) (test : Rule → Bool)
    (tells : (n : ℕ) (r : Rule) (q : ℕ) → passes (is_at q) (place (n, r)) ≡ (test r && (n == q))) where
  -- no place before the first
  none_before : (rules : List Rule) (n q : ℕ) → q < n → list_any (is_at q) (filter_map place (enumerate_from n rules)) ≡ false
  none_before [] n q h = refl
  none_before (r ∷ rules) n q h =
      any_consed (is_at q) (place (n, r)) (filter_map place (enumerate_from (n + 1) rules))
      ∙ or_from _ _ (tells n r q ∙ elsewhere (test r) n q h) (none_before rules (n + 1) q (omega (arith, h)))
    where
      elsewhere : (b : Bool) (n q : ℕ) → q < n → (b && (n == q)) ≡ false
      elsewhere true n q h = false_from_ne_true (n == q) (λ t. absurd (omega (arith, eqb-true n q t, h)))
      elsewhere false n q h = refl

  pub places_told : (rules : List Rule) (n j : ℕ) → list_any (is_at (n + j)) (filter_map place (enumerate_from n rules)) ≡ passes_at test rules j
  places_told [] n j = refl
  places_told (r ∷ rules) n zero =
      any_consed (is_at (n + zero)) (place (n, r)) (filter_map place (enumerate_from (n + 1) rules))
      ∙ (λ i. tells n r (n + zero) i || none_before rules (n + 1) (n + zero) (omega arith) i)
      ∙ here (test r) (n == n + zero) (eq-eqb n (n + zero) (omega arith))
    where
      here : (b c : Bool) → c ≡ true → ((b && c) || false) ≡ b
      here true true h = refl
      here true false h = absurd (false≢true h)
      here false c h = refl
  places_told (r ∷ rules) n (suc j) =
      any_consed (is_at (n + suc j)) (place (n, r)) (filter_map place (enumerate_from (n + 1) rules))
      ∙ ap (λ b. b || list_any (is_at (n + suc j)) (filter_map place (enumerate_from (n + 1) rules))) (tells n r (n + suc j) ∙ elsewhere (test r) (n == n + suc j) (false_from_ne_true _ (λ t. absurd (omega (arith, eqb-true n (n + suc j) t)))))
      ∙ ap (λ q. list_any (is_at q) (filter_map place (enumerate_from (n + 1) rules))) (omega arith)
      ∙ places_told rules (n + 1) j
    where
      elsewhere : (b c : Bool) → c ≡ false → (b && c) ≡ false
      elsewhere true c h = h
      elsewhere false c h = refl

-- ---- an element at an index

pub in_range : {X : Type 0} (ys : List X) (k : ℕ) (y : X) → slice_get ys k ≡ Some y → k < length ys
in_range [] k y h = absurd (cc)
in_range (z ∷ ys) zero y h = omega arith
in_range (z ∷ ys) (suc k) y h = omega (arith, in_range ys k y h)

pub at_index : {X : Type 0} (ys : List X) (k : ℕ) (y d : X) → slice_get ys k ≡ Some y → slice_index_or ys k d ≡ y
at_index [] k y d h = absurd (cc)
at_index (z ∷ ys) zero y d h = cc
at_index (z ∷ ys) (suc k) y d h = at_index ys k y d h

pub past_all : {X : Type 0} (ys : List X) (k : ℕ) → slice_get ys k ≡ None → length ys ≤ k
past_all [] k h = omega arith
past_all (z ∷ ys) zero h = absurd (cc)
past_all (z ∷ ys) (suc k) h = omega (arith, past_all ys k h)

-- ---- what the partition point tells

-- the place j stands at an index from i on
record Behind {X : Type 0} (is_at : ℕ → X → Bool) (es : List X) (i j : ℕ) : Type 0 where
  k : ℕ
  x : X
  late : i ≤ k
  short : k < length es
  here : slice_index_or es k x ≡ x
  is : is_at j x ≡ true

module _ {X : Type 0} (is_at : ℕ → X → Bool) (before : X → Bool) (rules : List Rule) (test : Rule → Bool) (es : List X) (from i : ℕ)
    (told : (j : ℕ) → list_any (is_at j) es ≡ passes_at test rules j)
    (point : IsPartitionPoint (λ y. before y ≡ true) (λ y. before y ≡ false) es i)
    (soon : (j : ℕ) (x : X) → is_at j x ≡ true → before x ≡ true → j < from) where
  -- a place from there on is at the partition point or behind it
  behind : (j : ℕ) → from ≤ j → passes_at test rules j ≡ true → Behind is_at es i j
  behind j ge h =
      let found = Any-from_list_any (is_at j) es (told j ∙ h) in
      record { k = found.0; x = found.1; late = late found.0 found.1 found.3 found.4 (nat_lt found.0 i) refl; short = found.2; here = found.3; is = found.4 }
    where
      late : (k : ℕ) (x : X) → slice_index_or es k x ≡ x → is_at j x ≡ true → (b : Bool) → nat_lt k i ≡ b → i ≤ k
      late k x here is true lt = absurd (omega (arith, ge, soon j x is (sym (ap before here) ∙ point.0 k x (omega arith) (ltb-true k i lt))))
      late k x here is false lt = ltb-false k i lt

  -- the place at the partition point, where no later one is before it
  pub found_there : (x : X) (q : ℕ) → slice_get es i ≡ Some x → is_at q x ≡ true → from ≤ q
      → ((k j : ℕ) (y : X) → i ≤ k → k < length es → slice_index_or es k y ≡ y → is_at j y ≡ true → q ≤ j) → next_place test rules from ≡ Some q
  found_there x q here is ge least =
      least_is test rules from q ge (sym (told q) ∙ list_any_at (is_at q) es i x (in_range es i x here) (ap (is_at q) (at_index es i x x here) ∙ is))
      (λ j late early. false_from_ne_true _ (λ t. let b = behind j late t in absurd (omega (arith, early, least b.k j b.x b.late b.short b.here b.is))))

  -- no place, where none from the partition point on is one
  pub found_none : ((k j : ℕ) (y : X) → i ≤ k → k < length es → slice_index_or es k y ≡ y → is_at j y ≡ true → ⊥) → next_place test rules from ≡ None
  found_none none =
      none_is test rules from (λ j late. false_from_ne_true _ (λ t. let b = behind j late t in none b.k j b.x b.late b.short b.here b.is))
