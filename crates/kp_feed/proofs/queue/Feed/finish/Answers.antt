use Rattle.kp_feed.proofs.Rules.{learns}
use Rattle.kp_feed.proofs.queue.Feed.finish.Goals as goal

pub len_as-left-requires-clause-rule : goal.len_as-left-requires-clause-rule
len_as-left-requires-clause-rule g c = learns _ _ c.taker.invariant.2
