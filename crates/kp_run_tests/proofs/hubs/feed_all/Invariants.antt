use Rattle.std.proofs.Common.{◌≡◌}
use Rattle.kp_run_tests.proofs.hubs.feed_all.Given as goal

-- the pass stays one of the hub's queue
abbrev pub invariant-loop-event : goal.invariant-loop-event
invariant-loop-event g l = l.feeder.queue ≡ g.J.Sharing.queue
