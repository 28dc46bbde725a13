-- A quotient rounded half to even is at most one more than the quotient.
use Rattle.std.proofs.Common.{ℕ, ◌+◌, ◌*◌, ◌/◌, ◌%◌, ◌≤◌, ◌==◌, ◌&&◌, ◌||◌, Bool, true, false, if◌then◌else◌, nat_lt, arith}
use Rattle.kp_choice_defs.specs.Draws.{half_even}

pub half_even_le : (a n : ℕ) → half_even a n ≤ a / n + 1
half_even_le a n = rounded (nat_lt (2 * (a % n)) n || ((2 * (a % n) == n) && ((a / n) % 2 == 0))) (a / n)
  where
    rounded : (b : Bool) (x : ℕ) → (if b then x else x + 1) ≤ x + 1
    rounded true x = omega arith
    rounded false x = omega arith
