use Rattle.std.proofs.Common.{◌≡◌}
use Rattle.kp_feed.specs.Calls.{new_feeders, new_taker}
use Rattle.kp_feed.proofs.queue.feed_queue.Given as goal

abbrev pub invariant-loop-feeder : goal.invariant-loop-feeder
invariant-loop-feeder l = (l.passes ≡ new_feeders l.feed-inside.queue.web l.feeder) × (l.taker ≡ new_taker l.feed-inside.queue.web l.feeder)
