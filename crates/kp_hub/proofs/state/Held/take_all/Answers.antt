use Rattle.kp_hub.specs.State.{state_in}
use Rattle.kp_hub.proofs.States.{state_takes}
use Rattle.kp_hub.proofs.state.Held.take_all.Goals as goal

pub invariant_of-self : goal.invariant_of-self
invariant_of-self g c =
    let s = c.self.inside in (
      c.self.invariant.0,
      c.self.invariant.1,
      state_takes g.J.Sharing.config g.J.Sharing.streams g.J.Publication.start
          (state_in s.intake s.publisher s.refusals.items s.accepted.total s.refused.total) s.waiting.items c.self.invariant.2
          c.take_all.new.self c.take_all.ensures.more c.take_all.ensures.counts c.take_all.ensures.records,
    )
