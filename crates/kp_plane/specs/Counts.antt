-- How far a sync counts.
use Rattle.std.specs.Prelude.{◌≡◌, ◌≤◌, ◌+◌, ℕ}

-- A count of a sync that takes at most so many steps: it takes none where no event is left to cover.
pub record IsCounted (left most old new : ℕ) : Type 0 where
  pub bound : new ≤ old + most
  pub unchanged : left ≡ 0 → new ≡ old
