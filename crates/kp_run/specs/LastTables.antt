-- The table that a live run ends with.
use Rattle.std.specs.Prelude.{◌≡◌, ℕ, List, Some}
use Rattle.kp_io.specs.Ends.{Input, Output}
use Rattle.kp_io.specs.Lines.{lines_of}
use Rattle.kp_io.specs.Told.{Grows}
use Rattle.kp_object_defs.specs.Objects.{objects_after}
use Rattle.kp_table_defs.specs.Rebuild.{full_table}
use Rattle.kp_run_defs.specs.LegalRuns.{LiveRun, chains_at, events_in, records_in, settings_in}
use Rattle.kp_run_defs.specs.LiveLines.{reading_of}
use Rattle.kp_run_defs.specs.LiveText.{live_text}
use Rattle.kp_run.specs.Outcome.{EndsLive}
use Rattle.kp_run.specs.declared.status.Status.TheVariants.{Done}

-- Where a live run of an input ends and nothing is refused, what is written is the text of a run of
-- it, whose last table is the full table of the objects after all its events.
abbrev pub LastLiveTable : Type 0
LastLiveTable =
    (from : Input) (to : Output) (input : Input) (output : Output) (text : List ℕ)
    → from.left ≡ Some text → EndsLive Done from to input output
    → (run : LiveRun) × (run.reading ≡ reading_of (lines_of text))
    × Grows to.written output.written (live_text run)
    × (chains_at run (records_in run)
    ≡ (full_table (settings_in run) (objects_after (events_in run))).chains)
