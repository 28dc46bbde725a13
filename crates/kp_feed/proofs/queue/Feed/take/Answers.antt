use Rattle.kp_feed.proofs.Rules.{takes, learns}
use Rattle.kp_feed.proofs.queue.Feed.take.Goals as goal

pub pop_as-requires-clause-rule : goal.pop_as-requires-clause-rule
pop_as-requires-clause-rule g c = (takes _ _ c.pass.invariant.2, learns _ _ c.pass.invariant.2)
