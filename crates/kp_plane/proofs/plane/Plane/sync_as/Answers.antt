use Rattle.std.proofs.Common.{rules, ◌≡◌, ◌≤◌, ◌+◌, None, IfErr, ℕ, List, not, count_by, sym, ap, subst, ◌∙◌}
use Rattle.kp_choice_defs.specs.Settings.{settings_of}
use Rattle.kp_full_table.specs.Faults.{TellsClash}
use Rattle.kp_object_defs.specs.Objects.{objects_after}
use Rattle.kp_table_defs.specs.Edits.{is_write}
use Rattle.kp_table_defs.specs.Rebuild.{clash_of}
use Rattle.kp_history.proofs.Synced.{last_is_next}
use Rattle.kp_store.proofs.OwnObjects.{either_way}
use Rattle.kp_writer.specs.Batch.{own_rules_written}
use Rattle.kp_plane.specs.Counts.{IsCounted}
use Rattle.kp_plane.specs.Invariant.{parts_of}
use Rattle.kp_plane.specs.Parts.{last_edits, most_asked, most_steps, next_edits, records_in}
use Rattle.kp_plane.specs.Parts.{settings_in, uncovered_in}
use Rattle.kp_plane.proofs.Synced.{next_number, parts_next, plane_kept, plane_next, record_next}
use Rattle.kp_plane.proofs.plane.Plane.sync_as.Goals as goal

pub invariant_of-self : goal.invariant_of-self
invariant_of-self g c =
    let s = c.self.inside in
    let p = parts_of s.config s.journal s.history in
    let h = c.sync_as.new.history in
    let t = c.sync_as.new.ports in
    either_way c.sync_as.result c.sync_as.ensures.ok c.sync_as.ensures.err
    (plane_next p s.journal.most s.history h s.ports t s.explained s.slices c.self.invariant)
    (plane_kept p s.journal.most s.history h s.ports t s.explained s.slices c.self.invariant)

pub invariant_of-self-2 : goal.invariant_of-self-2
invariant_of-self-2 g c =
    let s = c.self.inside in
    plane_next (parts_of s.config s.journal s.history) s.journal.most s.history
    c.sync_as.new.history s.ports c.sync_as.new.ports s.explained s.slices c.self.invariant
    c.in_ok-written.ensures.ok

pub returns-clause-ok : goal.returns-clause-ok
returns-clause-ok g c =
    let s = c.self.inside in
    parts_next (parts_of s.config s.journal s.history) c.args.self.now c.self.view_is
    c.sync_as.new.history c.sync_as.new.ports c.in_ok-written.ensures.ok

pub returns-clause-added : goal.returns-clause-added
returns-clause-added g c =
    let s = c.self.inside in
    ap records_in (parts_next (parts_of s.config s.journal s.history) c.args.self.now c.self.view_is
    c.sync_as.new.history c.sync_as.new.ports c.in_ok-written.ensures.ok)
    ∙ c.records_grow.ensures

pub returns-clause-note : goal.returns-clause-note
returns-clause-note g c =
    let s = c.self.inside in
    let old = c.args.self.now in
    let h = c.sync_as.new.history in
    let next = parts_next (parts_of s.config s.journal s.history) old c.self.view_is h
    c.sync_as.new.ports c.in_ok-written.ensures.ok in
    let edits = ap next_edits c.self.view_is in
    λ i. record {
      sync = next_number old (parts_of s.config s.journal h) next c.syncs.ensures.count i;
      events = c.uncovered-events.ensures i;
      written = (c.in_ok-written.ensures.written ∙ ap (count_by is_write) edits) i;
      removed = (c.in_ok-written.ensures.removed ∙ ap (count_by (λ e. not (is_write e))) edits) i;
    }

pub returns-clause-last : goal.returns-clause-last
returns-clause-last g c =
    let s = c.self.inside in
    let p = parts_of s.config s.journal s.history in
    let next = c.in_ok-written.ensures.ok in
    let made =
    sym (last_is_next p c.self.invariant.holds.history.exact)
    ∙ ap (λ (counts : List ℕ). last_edits (record p { counts = counts })) (sym next.history.counts) in
    λ i. record {
      sync = c.syncs.ensures.count i;
      events = c.uncovered-events.ensures i;
      written = (c.in_ok-written.ensures.written ∙ ap (count_by is_write) made) i;
      removed = (c.in_ok-written.ensures.removed ∙ ap (count_by (λ e. not (is_write e))) made) i;
    }

pub returns-clause-told : goal.returns-clause-told
returns-clause-told g c =
    subst (λ q. g.T.OfBatch.told (next_edits q) c.in_ok-written.made) c.self.view_is
    c.in_ok-written.ensures.told

pub returns-clause-record : goal.returns-clause-record
returns-clause-record g c =
    record_next c.args.self.now
    (subst (λ q. clash_of (settings_in q) (objects_after q.events) ≡ None) c.self.view_is
    c.in_ok-written.ensures.no_clash)

pub returns-in_err-written-clause-clash : goal.returns-in_err-written-clause-clash
returns-in_err-written-clause-clash g c =
    let told : IfErr c.from_residual.result (TellsClash (clash_of (settings_of c.self.inside.config)
    (objects_after c.self.inside.journal.events))) =
    search rules in
    subst (λ q. IfErr c.from_residual.result
    (TellsClash (clash_of (settings_in q) (objects_after q.events)))) c.self.view_is told

pub returns-clause-steps : goal.returns-clause-steps
returns-clause-steps g c =
    subst (λ q. IsCounted (uncovered_in q) (most_steps q) c.args.steps.now c.sync_as.new.steps)
    c.self.view_is c.sync_as.ensures.steps

pub returns-in_err-written-clause-steps : goal.returns-in_err-written-clause-steps
returns-in_err-written-clause-steps g c =
    subst (λ q. IsCounted (uncovered_in q) (most_steps q) c.args.steps.now c.sync_as.new.steps)
    c.self.view_is c.sync_as.ensures.steps

pub returns-clause-asked : goal.returns-clause-asked
returns-clause-asked g c =
    subst (λ q. IsCounted (uncovered_in q) (most_asked q) c.args.asked.now c.sync_as.new.asked)
    c.self.view_is c.sync_as.ensures.asked

pub returns-in_err-written-clause-asked : goal.returns-in_err-written-clause-asked
returns-in_err-written-clause-asked g c =
    subst (λ q. IsCounted (uncovered_in q) (most_asked q) c.args.asked.now c.sync_as.new.asked)
    c.self.view_is c.sync_as.ensures.asked

pub returns-clause-made : goal.returns-clause-made
returns-clause-made g c =
    subst (λ q. c.args.steps.now + own_rules_written (next_edits q) ≤ c.sync_as.new.steps)
    c.self.view_is c.in_ok-written.ensures.made
