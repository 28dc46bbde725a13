use Rattle.std.proofs.Common.{sym, subst}
use Rattle.kp_hub.specs.State.{IsHubState, state_in}
use Rattle.kp_hub.specs.Taken.{Taken}
use Rattle.kp_hub.proofs.States.{state_ends}
use Rattle.kp_hub.proofs.state.Held.end_feeders.Goals as goal

pub invariant_of-self : goal.invariant_of-self
invariant_of-self g c =
    let s = c.self.inside in (
      c.self.invariant.0,
      c.self.invariant.1,
      subst
          (λ (t : Taken). IsHubState g.J.Sharing.config g.J.Sharing.streams g.J.Publication.start
          (state_in t s.publisher s.refusals.items s.accepted.total s.refused.total) s.waiting.items)
          (sym c.end_feeders.ensures)
          (state_ends g.J.Sharing.config g.J.Sharing.streams g.J.Publication.start
          (state_in s.intake s.publisher s.refusals.items s.accepted.total s.refused.total) s.waiting.items c.self.invariant.2 c.args.passes),
    )
