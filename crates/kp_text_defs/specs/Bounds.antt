-- Numbers within bounds.
use Rattle.std.specs.Prelude.{ℕ, ◌≤◌, min, max}
use Rattle.std.proofs.Math.Nat.{le-max_left, max-le, min-le_left}

-- the number, or the bound that it passes
abbrev pub between : ℕ → ℕ → ℕ → ℕ
between least most n = max least (min most n)

-- it is at least the least
pub between_from : (least most n : ℕ) → least ≤ between least most n
between_from least most n = le-max_left least (min most n)

-- it is at most the greatest
pub between_to : (least most n : ℕ) → least ≤ most → between least most n ≤ most
between_to least most n ordered = max-le ordered (min-le_left most n)
