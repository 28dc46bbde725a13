use Rattle.std.proofs.Common.{◌≡◌, Result, Err, IfErr, List, [], ◌∷◌, ◌++◌, None, length, ap, sym, refl, subst, ◌∙◌, rules}
use Rattle.kp_choice_defs.specs.Settings.{settings_of}
use Rattle.kp_types.specs.declared.sync.SyncRecord.{SyncRecord}
use Rattle.kp_object_defs.specs.Objects.{objects_after}
use Rattle.kp_table_defs.specs.Rebuild.{clash_of}
use Rattle.kp_history_defs.specs.Runs.{events_of}
use Rattle.kp_full_table.specs.declared.fault.TableFault.{TableFault}
use Rattle.kp_full_table.specs.Faults.{TellsClash}
use Rattle.kp_plane.specs.Parts.{PlaneParts}
use Rattle.kp_hub.specs.declared.notes.RecordNote.{RecordNote}
use Rattle.kp_hub.specs.Taken.{IsTaken, Taken, fed_of, records_at, taken_in}
use Rattle.kp_hub.proofs.Intakes.{no_clash, records_synced, taken_synced, tells_clash}
use Rattle.kp_hub.proofs.intake.Intake.record.Goals as goal

pub invariant_of-self-in_err-note : goal.invariant_of-self-in_err-note
invariant_of-self-in_err-note g c =
    let s = c.self.inside in
    subst (λ (p : PlaneParts × List RecordNote). (length s.origins.items ≡ length p.0.events)
    × IsTaken g.J.Sharing.config g.J.Sharing.queue (taken_in s.origins.items s.waits p.0 s.taker) p.0 s.taker p.1)
    (λ i. (sym c.in_err-note.ensures.err i, sym c.reserve.ensures.items i)) c.self.invariant

pub returns-in_err-note-clause-clash : goal.returns-in_err-note-clause-clash
returns-in_err-note-clause-clash g c =
    let s = c.self.inside in
    let config = g.J.Sharing.config in
    let is : c.from_residual.result ≡ Err c.in_err-note.field-0.0 = search rules in
    subst (λ (r : Result SyncRecord TableFault). IfErr r
    (TellsClash (clash_of (settings_of config) (objects_after (events_of c.args.self.now.journal))))) (sym is)
    (subst (λ (t : Taken). TellsClash (clash_of (settings_of config) (objects_after (events_of t.journal))) c.in_err-note.field-0.0)
    c.self.view_is
    (tells_clash config g.J.Sharing.queue (taken_in s.origins.items s.waits s.plane s.taker) s.plane s.taker s.notes.items c.self.invariant.1
    c.in_err-note.field-0.0 c.in_err-note.ensures.clash))

pub invariant_of-self-2 : goal.invariant_of-self-2
invariant_of-self-2 g c =
    let s = c.self.inside in
    let leads = c.in_ok-note.ensures.ok in (
      c.self.invariant.0 ∙ sym (ap (λ (p : PlaneParts). length p.events) leads),
      taken_synced g.J.Sharing.config g.J.Sharing.queue (taken_in s.origins.items s.waits s.plane s.taker) s.plane s.taker s.notes.items
          c.self.invariant.1 c.in_ok-note.record c.sync_for_nobody.new.plane (fed_of s.origins.items c.sync_for_nobody.new.plane.events)
          s.taker c.push_reserved.new.self.items (λ i. fed_of s.origins.items (leads i).events) refl leads c.in_ok-note.ensures.added
          (c.push_reserved.ensures.items ∙ (λ i. c.reserve.ensures.items i ++ c.in_ok-note.ensures.note i ∷ [])),
    )

pub returns-clause-record : goal.returns-clause-record
returns-clause-record g c =
    let s = c.self.inside in
    let leads = c.in_ok-note.ensures.ok in
    let t : Taken = taken_in s.origins.items s.waits s.plane s.taker in
    let now = taken_synced g.J.Sharing.config g.J.Sharing.queue t s.plane s.taker s.notes.items
    c.self.invariant.1 c.in_ok-note.record c.sync_for_nobody.new.plane (fed_of s.origins.items c.sync_for_nobody.new.plane.events)
    s.taker c.push_reserved.new.self.items (λ i. fed_of s.origins.items (leads i).events) refl leads c.in_ok-note.ensures.added
    (c.push_reserved.ensures.items ∙ (λ i. c.reserve.ensures.items i ++ c.in_ok-note.ensures.note i ∷ [])) in
    records_synced g.J.Sharing.config g.J.Sharing.queue t s.plane s.taker s.notes.items c.self.invariant.1
    c.in_ok-note.record c.sync_for_nobody.new.plane (taken_in s.origins.items s.waits c.sync_for_nobody.new.plane s.taker)
    now.plane_is c.in_ok-note.ensures.added
    ∙ ap (λ (u : Taken). records_at g.J.Sharing.config u ++ c.in_ok-note.record ∷ []) c.self.view_is

pub returns-clause-no_clash : goal.returns-clause-no_clash
returns-clause-no_clash g c =
    let s = c.self.inside in
    subst (λ (t : Taken). clash_of (settings_of g.J.Sharing.config) (objects_after (events_of t.journal)) ≡ None) c.self.view_is
    (no_clash g.J.Sharing.config g.J.Sharing.queue (taken_in s.origins.items s.waits s.plane s.taker) s.plane s.taker s.notes.items
    c.self.invariant.1 c.in_ok-note.record c.in_ok-note.ensures.record)
