use Rattle.std.proofs.Common.{◌≡◌}
use Rattle.kp_run_tests.proofs.hubs.take_all.Given as goal

-- the pass stays one of the hub's queue
abbrev pub invariant-loop-line : goal.invariant-loop-line
invariant-loop-line g l = l.feeder.queue ≡ g.J.Sharing.queue
