use Rattle.std.proofs.Common.{◌≡◌, [], rules}
use Rattle.kp_hub.specs.State.{state_in}
use Rattle.kp_hub.proofs.States.{state_new}
use Rattle.kp_hub.proofs.state.Held.new.Goals as goal

pub invariant_of-result : goal.invariant_of-result
invariant_of-result g c =
    let waiting : c.new.result.items ≡ [] = search rules in
    let refusals : c.new-2.result.items ≡ [] = search rules in (
      c.requires.accepted.1,
      c.requires.refused.1,
      state_new g.J.Sharing.config g.J.Sharing.streams g.J.Publication.start
          (state_in c.args.intake c.args.publisher c.new-2.result.items c.args.accepted.0.total c.args.refused.0.total) c.new.result.items
          c.requires.start c.requires.feeders c.requires.counts c.requires.published waiting refusals c.requires.accepted.0 c.requires.refused.0,
    )
