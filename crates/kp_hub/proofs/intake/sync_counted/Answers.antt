use Rattle.std.proofs.Common.{◌≡◌, [], ◌∷◌, ◌++◌, count_by, not, ap, subst, sym, ◌∙◌}
use Rattle.kp_types.specs.declared.sync.SyncRecord.{SyncRecord}
use Rattle.kp_table_defs.specs.Edits.{is_write}
use Rattle.kp_plane.specs.Parts.{IsNextRecord, next_record, records_in}
use Rattle.kp_hub.proofs.intake.sync_counted.Goals as goal

pub returns-clause-note : goal.returns-clause-note
returns-clause-note g c =
    let note = c.in_ok-note.ensures.note in
    let edits = sym c.in_ok-note.ensures.told in
    λ i. record {
      events = c.in_ok-note.note.events;
      written = (ap (λ n. n.written) note ∙ ap (count_by is_write) edits) i;
      removed = (ap (λ n. n.removed) note ∙ ap (count_by (λ e. not (is_write e))) edits) i;
    }

pub returns-clause-record : goal.returns-clause-record
returns-clause-record g c =
    subst (IsNextRecord c.args.plane.now) (λ i. record {
      sync = (sym c.in_ok-note.ensures.note i).sync;
      events = (sym c.in_ok-note.ensures.note i).events;
      batch = record { edits = sym c.in_ok-note.ensures.told i };
    }) c.in_ok-note.ensures.record

pub returns-clause-added : goal.returns-clause-added
returns-clause-added g c =
    c.in_ok-note.ensures.added
    ∙ (λ i. records_in c.args.plane.now ++ (record {
      sync = (sym c.in_ok-note.ensures.note i).sync;
      events = (sym c.in_ok-note.ensures.note i).events;
      batch = record { edits = sym c.in_ok-note.ensures.told i };
    }) ∷ [])
