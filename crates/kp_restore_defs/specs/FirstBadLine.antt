-- The first line of a text that no text of a value has after the lines before it.
use Rattle.std.specs.Prelude.{◌≡◌, ℕ, ◌+◌, ◌-◌, ◌≤◌, ◌==◌, List, take, length}
use Rattle.std.specs.List.{slice_split}

-- a list without its last element
abbrev pub without_last : {A : Type 0} → List A → List A
without_last xs = take (length xs - 1) xs

-- the lines of a text that are ended by a line feed; what stands behind the last one is none
abbrev pub ended_lines : List ℕ → List (List ℕ)
ended_lines text = without_last (slice_split (λ byte. byte == 10) text)

-- The values have texts of lines. The line of this number, from 1, is the first bad one of a text: some value has the
-- lines before it, and no value has it behind them. It may be the line after the last one that is ended: a piece
-- without a line feed, or nothing, where more is owed.
pub record IsFirstBadLine {V : Type 0} (has_text : V → Type 0) (lines_of : V → List (List ℕ)) (bytes : List ℕ) (number : ℕ) : Type 0 where
  pub counted : 1 ≤ number
  pub within : number ≤ length (ended_lines bytes) + 1
  pub before : (v : V) × has_text v × (take (number - 1) (ended_lines bytes) ≡ take (number - 1) (lines_of v))
  pub bad : (v : V) → has_text v → number ≤ length (ended_lines bytes) → take number (ended_lines bytes) ≡ take number (lines_of v) → ⊥
