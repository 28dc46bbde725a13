-- Lines that were taken from what a reader holds.
use Rattle.std.specs.Prelude.{◌≡◌, ◌≤◌, ℕ, true, List, length, take}
use Rattle.std.specs.List.{list_all}
use Rattle.kp_restore_text.specs.Pieces.{no_line_feed}
use Rattle.kp_restore_defs.specs.TableText.{text_of_lines}
use Rattle.kp_run_defs.specs.ReplayText.{Standing}
use Rattle.kp_replay.specs.Groups.{lines_from}

-- Whole lines at the front of what is held were taken, so many bytes and so many lines, and this is
-- what they print.
pub record AnswersGroup (number : ℕ) (held : List ℕ) (bytes count : ℕ) (s t : Standing) (printed : List ℕ) : Type 0 where
  pub lines : List (List ℕ)
  pub front : take bytes held ≡ text_of_lines lines
  pub within : bytes ≤ length held
  pub feedless : list_all no_line_feed lines ≡ true
  pub counted : count ≡ length lines
  pub stands : t ≡ (lines_from number lines s).next
  pub text : printed ≡ (lines_from number lines s).text
