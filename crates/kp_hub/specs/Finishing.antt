-- What a hub that ended hands out.
use Rattle.std.specs.Prelude.{◌≡◌, ◌≤◌, ◌+◌, List, ◌++◌, Option, None, map, length, sum}
use Rattle.std.specs.List.{AllByRecursion}
use mathlib.Core.List.{IsPrefix}
use Rattle.kp_base.specs.declared.config.Config.{Config}
use Rattle.kp_types.specs.declared.chain.Clash.{Clash}
use Rattle.kp_types.specs.declared.sync.SyncRecord.{SyncRecord}
use Rattle.kp_table_defs.specs.Rebuild.{TableParts}
use Rattle.kp_history_defs.specs.declared.fed.Fed.{Fed}
use Rattle.kp_history_defs.specs.Runs.{events_of}
use Rattle.kp_feed.specs.Calls.{ended_of}
use Rattle.kp_feed.specs.Passes.{Feeder}
use Rattle.kp_plane.specs.Parts.{PlaneParts, HasExactHistory, records_in, table_in}
use Rattle.kp_publish.specs.declared.entry.Entry.{Entry}
use Rattle.kp_publish.specs.Entries.{records_of}
use Rattle.kp_run_defs.specs.LegalRuns.{last_syncs}
use Rattle.kp_hub.specs.declared.notes.RecordNote.{RecordNote}
use Rattle.kp_hub.specs.declared.notes.Refusal.{Refusal}
use Rattle.kp_hub.specs.State.{HubState, IsRefusal}
use Rattle.kp_hub.specs.Syncs.{clash_after}
use Rattle.kp_hub.specs.Taken.{Taken, note_of}

-- the plane of a journal and of the notes of its syncs
abbrev pub plane_told : Config → List Fed → List RecordNote → PlaneParts
plane_told config journal notes = record {
  config = config;
  events = events_of journal;
  counts = map (λ n. n.events) notes;
}

-- the records of these syncs
abbrev pub records_told : Config → List Fed → List RecordNote → List SyncRecord
records_told config journal notes = records_in (plane_told config journal notes)

-- What is handed out at the end: the syncs are an exact history of the journal, with these notes
-- and this table, and cover all of it unless the last was refused, whose clash this is. Each
-- refusal is by a clash after the first events of the journal, which has no more than it may.
pub record IsEnd
    (config : Config) (journal : List Fed) (notes : List RecordNote) (refusals : List Refusal)
    (clash : Option Clash) (table : TableParts) : Type 0 where
  pub exact : HasExactHistory (plane_told config journal notes)
  pub notes_are : notes ≡ map note_of (records_told config journal notes)
  pub table_is : table ≡ table_in (plane_told config journal notes)
  pub clash_is : clash ≡ clash_after config journal
  pub covers : clash ≡ None → sum (map (λ n. n.events) notes) ≡ length journal
  pub refused : AllByRecursion (IsRefusal config journal) refusals
  pub few : length journal ≤ config.max_events

-- feeders end
abbrev pub with_ended : Taken → List Feeder → Taken
with_ended t passes = record t { ended = t.ended ++ map ended_of passes }

-- the syncs cover the whole journal
abbrev pub CoversAll : Taken → Type 0
CoversAll t = sum t.counts ≡ length t.journal

-- what was seen begins these records
abbrev pub Begins : List Entry → List SyncRecord → Type 0
Begins seen records = IsPrefix (records_of seen) records

-- as many syncs count as told
pub record KeepsBooks (before after : HubState) : Type 0 where
  pub accepted : after.accepted ≡ before.accepted
  pub refused : after.refused ≡ before.refused

-- there are as many syncs as passes together were told of, and one more where no clash refused the
-- last
abbrev pub IsUntold : HubState → Option Clash → Type 0
IsUntold h clash = h.accepted + last_syncs clash ≤ length h.taken.counts
