-- The next of the rules that aren't keyed, found among their places.
use Rattle.std.proofs.Common.{◌≡◌, ◌≤◌, ◌<◌, ◌+◌, ◌&&◌, ◌==◌, ℕ, zero, suc, Bool, true, false, not, List, [], ◌∷◌, length, Option, Some, None, is_some, slice_get, slice_index_or, nat_lt, refl, sym, ap, ◌∙◌, arith}
use Rattle.std.specs.List.{filter_map, cons_option, enumerate_from, list_any}
use Rattle.std.specs.List.Sorted.{IsPartitionPoint, IsNonDecreasingBy}
use Rattle.std.proofs.lemmas.Bool.{eqb-true, eq-eqb, ltb-true, ltb-false}
use Rattle.std.proofs.lemmas.List.Folds.{list_any_at}
use Rattle.kp_types.specs.declared.rule.Rule.{Rule}
use Rattle.kp_rules.specs.Destinations.{next_place, destination_of}
use Rattle.kp_rules.specs.Index.{other_place, other_places, place_unless, is_other}
use Rattle.kp_rules.specs.declared.destination.Destination.{Destination}
use Rattle.kp_rules.proofs.NextPlaces.{passes_at, least_is}
use Rattle.kp_rules.proofs.PlacesFound.{passes, places_told, found_there, found_none, in_range, at_index, past_all}

-- whether a place is this one
abbrev is_place : ℕ → ℕ → Bool
is_place q p = p == q

tells : (n : ℕ) (r : Rule) (q : ℕ) → passes (is_place q) (other_place (n, r)) ≡ (is_other r && (n == q))
tells n r q = by (destination_of r)
  where
    by : (o : Option Destination) → passes (is_place q) (place_unless n o) ≡ (not (is_some o) && (n == q))
    by None = refl
    by (Some to) = refl

-- ---- the places rise

consed_least : (n : ℕ) (o : Option Destination) (ps : List ℕ) → ((k d : ℕ) → k < length ps → n ≤ slice_index_or ps k d)
    → (k d : ℕ) → k < length (cons_option (place_unless n o) ps) → n ≤ slice_index_or (cons_option (place_unless n o) ps) k d
consed_least n None ps h zero d lt = omega arith
consed_least n None ps h (suc k) d lt = h k d (omega (arith, lt))
consed_least n (Some to) ps h k d lt = h k d lt

at_least : (n : ℕ) (rules : List Rule) (k d : ℕ) → k < length (filter_map other_place (enumerate_from n rules)) → n ≤ slice_index_or (filter_map other_place (enumerate_from n rules)) k d
at_least n [] k d lt = absurd (omega (arith, lt))
at_least n (r ∷ rules) k d lt = consed_least n (destination_of r) _ (λ k d lt. omega (arith, at_least (n + 1) rules k d lt)) k d lt

consed_rise : (n : ℕ) (o : Option Destination) (ps : List ℕ) → ((k d : ℕ) → k < length ps → n ≤ slice_index_or ps k d)
    → IsNonDecreasingBy (λ p. p) ps → IsNonDecreasingBy (λ p. p) (cons_option (place_unless n o) ps)
consed_rise n None ps least h zero zero d le lt = omega arith
consed_rise n None ps least h zero (suc j) d le lt = least j d (omega (arith, lt))
consed_rise n None ps least h (suc i) zero d le lt = absurd (omega (arith, le))
consed_rise n None ps least h (suc i) (suc j) d le lt = h i j d (omega (arith, le)) (omega (arith, lt))
consed_rise n (Some to) ps least h i j d le lt = h i j d le lt

pub places_rise : (n : ℕ) (rules : List Rule) → IsNonDecreasingBy (λ p. p) (filter_map other_place (enumerate_from n rules))
places_rise n [] = λ i j d le lt. absurd (omega (arith, lt))
places_rise n (r ∷ rules) =
    consed_rise n (destination_of r) _ (λ k d lt. omega (arith, at_least (n + 1) rules k d lt)) (places_rise (n + 1) rules)

-- ---- the search

told : (rules : List Rule) (j : ℕ) → list_any (is_place j) (other_places rules) ≡ passes_at is_other rules j
told rules j = ap (λ q. list_any (is_place q) (other_places rules)) (omega arith) ∙ places_told other_place is_place is_other tells rules 0 j

-- a place that stands at its own index
pub other_itself : (rules : List Rule) (from : ℕ) → slice_get (other_places rules) from ≡ Some from → next_place is_other rules from ≡ Some from
other_itself rules from h =
    least_is is_other rules from from (omega arith)
    (sym (told rules from) ∙ list_any_at (is_place from) (other_places rules) from from (in_range (other_places rules) from from h) (ap (is_place from) (at_index (other_places rules) from from from h) ∙ eq-eqb from from refl))
    (λ j late early. absurd (omega (arith, late, early)))

pub next_other_is : (rules : List Rule) (from i : ℕ) → IsPartitionPoint (λ p. nat_lt p from ≡ true) (λ p. nat_lt p from ≡ false) (other_places rules) i
    → slice_get (other_places rules) i ≡ next_place is_other rules from
next_other_is rules from i point = by (slice_get (other_places rules) i) refl
  where
    soon : (j p : ℕ) → is_place j p ≡ true → nat_lt p from ≡ true → j < from
    soon j p is lt = omega (arith, eqb-true p j is, ltb-true p from lt)

    by : (o : Option ℕ) → slice_get (other_places rules) i ≡ o → o ≡ next_place is_other rules from
    by None h = sym (found_none is_place (λ p. nat_lt p from) rules is_other (other_places rules) from i (told rules) point soon
        (λ k j p late lt here is. absurd (omega (arith, past_all (other_places rules) i h, late, lt))))
    by (Some q) h = sym (found_there is_place (λ p. nat_lt p from) rules is_other (other_places rules) from i (told rules) point soon q q h (eq-eqb q q refl)
        (ltb-false q from (sym (ap (λ p. nat_lt p from) (at_index (other_places rules) i q 0 h)) ∙ point.1 i 0 (omega arith) (in_range (other_places rules) i q h)))
        (λ k j p late lt here is. omega (arith, places_rise 0 rules i k p late lt, at_index (other_places rules) i q p h, here, eqb-true p j is)))
