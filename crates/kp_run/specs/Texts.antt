-- What a run says of the lines of an input.
use Rattle.std.specs.Prelude.{ℕ, List}
use Rattle.kp_run_defs.specs.ReplayText.{Progress, replay_of}
use Rattle.kp_mode_defs.specs.Mode.{Mode, progress_of, replay_in, text_in}

-- how far it has come after lines, and the whole text of an input that has these lines
pub record Texts : Type 0 where
  pub progress : List (List ℕ) → Progress
  pub whole : List (List ℕ) → List ℕ

-- a replay has said all after the last line
abbrev pub replayed : Texts
replayed = record { progress = replay_of; whole = λ lines. (replay_of lines).text }

-- a mode says so much by its lines
abbrev pub by_lines : {S : Type 0} → Mode S → Texts
by_lines m = record { progress = λ lines. progress_of (replay_in m lines); whole = λ lines. (replay_in m lines).text }

-- and so much to the end
abbrev pub in_mode : {S : Type 0} → Mode S → Texts
in_mode m = record { progress = λ lines. progress_of (replay_in m lines); whole = text_in m }
