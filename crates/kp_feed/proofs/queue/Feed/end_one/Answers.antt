use Rattle.kp_feed.proofs.Rules.{ends}
use Rattle.kp_feed.proofs.queue.Feed.end_one.Goals as goal

pub absorb-requires-clause-rule : goal.absorb-requires-clause-rule
absorb-requires-clause-rule c = ends _ _ _ _ c.taker.invariant.2 c.pass.invariant.2
