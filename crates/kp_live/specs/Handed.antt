-- What a hub hands out at its end, and the run that it is.
use Rattle.std.specs.Prelude.{◌≡◌, ◌<◌, ◌≤◌, ◌+◌, ℕ, List, [], ◌++◌, map, sum, length, Option}
use Rattle.std.specs.List.{AllByRecursion, filter}
use Rattle.kp_types.specs.declared.chain.Clash.{Clash}
use Rattle.kp_table_defs.specs.Rebuild.{TableParts}
use Rattle.kp_history_defs.specs.declared.fed.Fed.{Fed}
use Rattle.kp_history_defs.specs.Runs.{is_of_stream}
use Rattle.kp_feed.specs.Feeding.{Delivers}
use Rattle.kp_feed.specs.Passes.{Feeder}
use Rattle.kp_run_defs.specs.LegalRuns.{LiveRun, last_syncs}
use Rattle.kp_run_defs.specs.LiveLines.{Reading}
use Rattle.kp_run_defs.specs.LiveText.{live_text, is_refused_run}
use Rattle.kp_hub.specs.Finishing.{IsEnd, records_told}
use Rattle.kp_hub.specs.Known.{Worker}
use Rattle.kp_hub.specs.declared.notes.RecordNote.{RecordNote}
use Rattle.kp_hub.specs.declared.notes.Refusal.{Refusal}
use Rattle.kp_live.specs.Runs.{AreOf, end_text, head_text, prints_refusal, telling}
use Rattle.kp_live.specs.Streams.{GoesOnFromAll}
use Rattle.kp_live.specs.Told.{Told}
use Rattle.kp_live.specs.Written.{RunsReading}
use Rattle.kp_live.specs.declared.answers.Answers.{Answers}

-- What was handed out of a hub of so many streams, whose feeders and workers were these.
pub record HandsOut
    (reading : Reading) (streams : ℕ) (feeders : List Feeder) (workers : List Worker)
    (journal : List Fed) (notes : List RecordNote) (refusals : List Refusal)
    (clash : Option Clash) (table : TableParts) : Type 0 where
  pub end : IsEnd reading.config journal notes refusals clash table
  pub order : (left : List Fed)
      × AllByRecursion (λ p. Delivers (journal ++ left) p.feeder p.fed) feeders
  pub whole : length journal < reading.config.max_events
      → AllByRecursion (λ p. Delivers journal p.feeder p.fed) feeders
  pub made : (p : ℕ) → streams ≤ p → filter (is_of_stream p) journal ≡ []
  pub accepted : sum (map (λ w. w.accepted) workers) + last_syncs clash ≤ length notes
  pub refused : sum (map (λ w. w.refused) workers) ≤ length refusals
  pub met : AllByRecursion (GoesOnFromAll (records_told reading.config journal notes)) workers

-- A run that the rules allow, whose text is printed of what was handed out and of these answers.
pub record IsRunOf
    (reading : Reading) (answers : List Answers) (journal : List Fed) (notes : List RecordNote)
    (refusals : List Refusal) (clash : Option Clash) (table : TableParts) : Type 0 where
  pub told : ℕ → List Told
  pub answers_are : AreOf told answers
  pub run : LiveRun
  pub runs : RunsReading reading run
  pub text : live_text run
      ≡ head_text reading journal notes ++ (telling refusals told reading.lines).text
      ++ end_text reading.config (length notes) clash table
  pub refused : is_refused_run run
      ≡ prints_refusal reading (telling refusals told reading.lines).denied clash
