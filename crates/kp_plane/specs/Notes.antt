-- What is told of a sync without its edits.
use Rattle.std.specs.Prelude.{ℕ, not, count_by}
use Rattle.kp_types.specs.declared.sync.SyncRecord.{SyncRecord}
use Rattle.kp_table_defs.specs.Edits.{is_write}
use Rattle.kp_plane.specs.Parts.{PlaneParts, syncs_in, last_edits}
use Rattle.kp_plane.specs.declared.note.SyncNote.{SyncNote}

-- the note of the last sync, which covered so many events more than the one before it
abbrev pub last_note : ℕ → PlaneParts → SyncNote
last_note events p = record {
  sync = syncs_in p;
  events = events;
  written = count_by is_write (last_edits p);
  removed = count_by (λ e. not (is_write e)) (last_edits p);
}

-- the note of a record
abbrev pub note_of : SyncRecord → SyncNote
note_of r = record {
  sync = r.sync;
  events = r.events;
  written = count_by is_write r.batch.edits;
  removed = count_by (λ e. not (is_write e)) r.batch.edits;
}
