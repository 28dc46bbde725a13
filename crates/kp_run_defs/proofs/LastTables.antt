-- The last table of a live run that ends without a clash.
use Rattle.std.proofs.Common.{◌≡◌, ℕ, false, is_some, List, take, length, sum, ap, sym, ◌∙◌}
use Rattle.std.proofs.Math.Seq.{take-length}
use Rattle.std.proofs.lemmas.List.{length-map}
use Rattle.kp_types.specs.declared.event.Event.{Event}
use Rattle.kp_object_defs.specs.Objects.{objects_after}
use Rattle.kp_table_defs.specs.Rebuild.{full_table}
use Rattle.kp_history_defs.specs.History.{covered}
use Rattle.kp_run_defs.specs.LegalRuns.{LiveRun, CoverJournal, LastTableIsFull, chains_at, events_in, final_clash, records_in, settings_in}

-- what the records cover where they cover as many events as there are
covers_all : (events : List Event) (counts : List ℕ) → sum counts ≡ length events
    → covered events counts (length counts) ≡ events
covers_all events counts h =
    ap (λ c. take (sum c) events) (take-length counts) ∙ ap (λ n. take n events) h
    ∙ take-length events

-- where the records cover the journal unless a clash ends it
pub covered_table_is_full : (run : LiveRun) → CoverJournal run
    → is_some (final_clash run) ≡ false
    → chains_at run (records_in run)
    ≡ (full_table (settings_in run) (objects_after (events_in run))).chains
covered_table_is_full run cover none =
    ap (λ events. (full_table (settings_in run) (objects_after events)).chains)
    (covers_all (events_in run) run.counts
    (cover.all none ∙ sym (length-map run.journal (λ f. f.event))))

pub last_table_is_full : LastTableIsFull
last_table_is_full run legal none = covered_table_is_full run legal.covered none
