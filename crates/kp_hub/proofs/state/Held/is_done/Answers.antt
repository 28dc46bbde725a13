use Rattle.std.proofs.Common.{ap}
use Rattle.kp_hub.specs.State.{state_in}
use Rattle.kp_hub.specs.Taken.{Taken, records_at}
use Rattle.kp_hub.proofs.States.{state_takes}
use Rattle.kp_hub.proofs.state.Held.is_done.Goals as goal

pub invariant_of-self : goal.invariant_of-self
invariant_of-self g c =
    let s = c.self.inside in (
      c.self.invariant.0,
      c.self.invariant.1,
      state_takes g.J.Sharing.config g.J.Sharing.streams g.J.Publication.start
          (state_in s.intake s.publisher s.refusals.items s.accepted.total s.refused.total) s.waiting.items c.self.invariant.2
          c.is_done.new.self c.is_done.ensures.more (ap (λ (t : Taken). t.counts) c.is_done.ensures.stays)
          (ap (records_at g.J.Sharing.config) c.is_done.ensures.stays),
    )
