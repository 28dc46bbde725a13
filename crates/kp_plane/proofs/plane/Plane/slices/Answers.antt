use Rattle.std.proofs.Common.{◌≡◌, IfOk, sym, subst, ◌∙◌}
use Rattle.std.specs.FinMap as finite
use Rattle.kp_object_defs.specs.SlicesNow.{slices_now}
use Rattle.kp_plane.specs.Parts.{slices_in}
use Rattle.kp_plane.specs.Invariant.{IsSlicesAt}
use Rattle.kp_plane.proofs.plane.Plane.slices.Goals as goal
use Rattle.kp_types.specs.Setting.{both_families}

pub invariant_of-self : goal.invariant_of-self
invariant_of-self c =
    let is = c.self.invariant in
    let config = c.self.inside.config in
    let events = c.self.inside.journal.events in
    let counts = c.self.inside.history.counts.items in
    record {
      limit = is.limit;
      room = is.room;
      holds = is.holds;
      explained_at = is.explained_at;
      to = is.to;
      slices_at = subst (IsSlicesAt config events counts) (sym c.replace-slices.ensures.after) (c.start.ensures config events counts);
    }

pub invariant_of-self-2 : goal.invariant_of-self-2
invariant_of-self-2 c =
    let is = c.self.invariant in
    let config = c.self.inside.config in
    let made = c.in_ok-self-inside.field-0 in
    let over_events = subst (λ events. IsSlicesAt config events c.as_slice.result.now made) c.events.ensures c.in_ok-self-inside.ensures.at in
    record {
      limit = is.limit;
      room = is.room;
      holds = is.holds;
      explained_at = is.explained_at;
      to = is.to;
      slices_at = subst (λ counts. IsSlicesAt config c.self.inside.journal.events counts made) c.as_slice.ensures.value over_events;
    }

-- the steps of dropping the store on each way out are many, so the slices are followed by hand
pub returns-clause-slices : goal.returns-clause-slices
returns-clause-slices c =
    let made = c.in_ok-self-inside.ensures.slices ∙ (λ i. slices_now both_families c.self.inside.config (c.events.ensures i) (c.as_slice.ensures.value i)) in
    let kept = subst (λ slices. IfOk c.copies.result (λ ss. ss ≡ finite.values slices)) made c.copies.ensures in
    subst (λ p. IfOk c.copies.result (λ ss. ss ≡ slices_in p)) c.self.view_is kept
