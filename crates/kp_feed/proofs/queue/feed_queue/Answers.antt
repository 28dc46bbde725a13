use Rattle.kp_feed.proofs.Rules.{begins}
use Rattle.kp_feed.proofs.queue.feed_queue.Goals as goal

pub with_rule-requires : goal.with_rule-requires
with_rule-requires c = begins
