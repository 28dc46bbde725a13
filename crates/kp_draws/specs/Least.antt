-- The choice by the statistic match without the way to it: which tests match, and which do not.
use Rattle.std.specs.Prelude.{◌≡◌, ℕ, ◌+◌, ◌-◌, ◌<◌, Bool, true, false}
use Rattle.kp_choice_defs.specs.Draws.{draw_matches, probability_of, draw_at}

-- the test of one of n at a place matches, where the first test has the draw of place k
abbrev pub matches_at : (ℕ → ℕ) → ℕ → ℕ → ℕ → Bool
matches_at draws k n place = draw_matches (probability_of (n - place)) (draw_at draws (k + place))

-- one of n at this place is the first whose test matches, or it is the last, which has no test
pub record IsFirstMatch (draws : ℕ → ℕ) (k n place : ℕ) : Type 0 where
  pub within : place < n
  pub matches : place + 1 < n → matches_at draws k n place ≡ true
  pub others : (i : ℕ) → i < place → matches_at draws k n i ≡ false
