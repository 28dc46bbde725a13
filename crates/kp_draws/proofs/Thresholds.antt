-- Thresholds of one of two or more lie below the greatest draw, and that of one of one above it.
use Rattle.std.proofs.Common.{◌≡◌, ℕ, ◌+◌, ◌*◌, ◌/◌, ◌<◌, ◌≤◌, true, false, arith}
use Rattle.std.proofs.Math.Nat.{div-le_of_le-mul}
use Rattle.std.proofs.lemmas.Bool.Decides.{nat_tests}
use Rattle.kp_choice_defs.specs.Draws.{draw_matches, probability_of, threshold_of}
use Rattle.kp_choice_defs.proofs.Rounding.{half_even_le}

half : (n : ℕ) → 2 ≤ n → 10000000000 / n ≤ 5000000000
half n two = div-le_of_le-mul n (omega (arith, two))

probability_small : (n : ℕ) → 2 ≤ n → probability_of n ≤ 5000000001
probability_small n two = omega (arith, half n two, half_even_le 10000000000 n)

threshold_small : (p : ℕ) → p ≤ 5000000001 → threshold_of p ≤ 2147483647
threshold_small p small = div-le_of_le-mul 20000000000 (omega (arith, small))

pub missing_matches_none : (n : ℕ) → 2 ≤ n → draw_matches (probability_of n) 2147483647 ≡ false
missing_matches_none n two =
    let small : threshold_of (probability_of n) ≤ 2147483647 = threshold_small _ (probability_small n two) in
    grind (arith, nat_tests, small)

pub certain_matches_all : (draw : ℕ) → draw < 2147483648 → draw_matches (probability_of 1) draw ≡ true
certain_matches_all draw low = grind (arith, nat_tests, low)
