use Rattle.std.proofs.Common.{◌≡◌, Some, [], ◌∷◌, ◌++◌, sym, subst, ◌∙◌}
use Rattle.kp_hub.specs.State.{HubState, state_in}
use Rattle.kp_hub.specs.Syncs.{clash_after}
use Rattle.kp_hub.proofs.States.{state_refuses}
use Rattle.kp_hub.proofs.state.Held.refuse.Goals as goal

pub invariant_of-self-2 : goal.invariant_of-self-2
invariant_of-self-2 g c =
    let s = c.self.inside in (
      c.self.invariant.0,
      c.self.invariant.1,
      state_refuses g.J.Sharing.config g.J.Sharing.streams g.J.Publication.start
          (state_in s.intake s.publisher s.refusals.items s.accepted.total s.refused.total) s.waiting.items c.self.invariant.2
          c.args.clash.now c.push.new.self.items
          (subst (λ (h : HubState). clash_after g.J.Sharing.config h.taken.journal ≡ Some c.args.clash.now) (sym c.self.view_is) c.requires)
          (c.in_ok-push.ensures.items ∙ (λ i. s.refusals.items ++ record { events = c.len.ensures i; clash = c.in_ok-copy.ensures i } ∷ [])),
    )
