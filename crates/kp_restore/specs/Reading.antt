-- How far a machine reads a text line by line, and why it reads no further.
use Rattle.std.specs.Prelude.{◌≡◌, ℕ, ◌+◌, ◌≤◌, true, List, [], ◌∷◌, ◌++◌, map, length, Option, Some, None}
use Rattle.std.specs.List.{list_all}
use Rattle.kp_base.specs.declared.address.Family.{Family}
use Rattle.kp_restore_defs.specs.TableText.{text_of_lines}
use Rattle.kp_restore.specs.declared.line.Line.{Line}
use Rattle.kp_restore.specs.Lines.{is_canonical_line, line_text}
use Rattle.kp_restore.specs.Machine.{run}
use Rattle.kp_restore_text.specs.Pieces.{no_line_feed}

-- the line of these bytes in a family's text is taken, and leads to this state
abbrev pub IsTaken : Family → {S : Type 0} → (S → Line → Option S) → S → List ℕ → S → Type 0
IsTaken family step s bytes next = (line : Line) × (is_canonical_line family line ≡ true) × (line_text line ≡ bytes) × (step s line ≡ Some next)

-- no line of these bytes is taken
abbrev pub IsRefused : Family → {S : Type 0} → (S → Line → Option S) → S → List ℕ → Type 0
IsRefused family step s bytes = (line : Line) → is_canonical_line family line ≡ true → line_text line ≡ bytes → step s line ≡ None

-- What is read of a family's text: lines that lead to a state, with a rest behind them, before a line's number. Each of them
-- has its line feed.
pub record IsRead (family : Family) {S : Type 0} (step : S → Line → Option S) (start : S) (bytes : List ℕ) (s : S) (rest : List ℕ) (number : ℕ) : Type 0 where
  pub lines : List Line
  pub canonical : list_all (is_canonical_line family) lines ≡ true
  pub ran : run step start lines ≡ Some s
  pub cut : bytes ≡ text_of_lines (map line_text lines) ++ rest
  pub counted : length lines + 1 ≡ number
  pub within : number + length rest ≤ length bytes + 1

-- Why the rest is not read: its first line is ended and isn't taken, or none is ended and the text may not end here.
pub data IsStuck (family : Family) {S : Type 0} (step : S → Line → Option S) (IsEnd : S → Type 0) (s : S) (rest : List ℕ) : Type 0 where
  Refused : (line behind : List ℕ) → rest ≡ line ++ 10 ∷ behind → no_line_feed line ≡ true → IsRefused family step s line → IsStuck family step IsEnd s rest
  Unfinished : no_line_feed rest ≡ true → (rest ≡ [] → IsEnd s → ⊥) → IsStuck family step IsEnd s rest
