use Rattle.std.proofs.Common.{◌<◌, length, sym, subst, arith}
use Rattle.kp_hub.specs.State.{HubState, state_in}
use Rattle.kp_hub.proofs.States.{state_tells}
use Rattle.kp_hub.proofs.state.Held.tell_refused.Goals as goal

pub invariant_of-self : goal.invariant_of-self
invariant_of-self g c =
    let s = c.self.inside in
    let fewer : s.refused.total < length s.refusals.items =
    subst (λ (h : HubState). h.refused < length h.refusals) (sym c.self.view_is) c.requires in
    let more = c.count_refused.ensures.total in (
      c.self.invariant.0,
      c.self.invariant.1,
      state_tells g.J.Sharing.config g.J.Sharing.streams g.J.Publication.start
          (state_in s.intake s.publisher s.refusals.items s.accepted.total s.refused.total) s.waiting.items c.self.invariant.2
          s.accepted.total c.count_refused.new.book.total c.self.invariant.2.keeps.accepted (omega (arith, fewer, more)),
    )
