use Rattle.kp_feed.proofs.Rules.{makes}
use Rattle.kp_feed.proofs.queue.Feed.new_feeder.Goals as goal

pub another-requires-clause-rule : goal.another-requires-clause-rule
another-requires-clause-rule c = makes _ _ c.taker.invariant.2
