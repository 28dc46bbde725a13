use Rattle.std.proofs.Common.{◌≡◌}
use Rattle.kp_run_tests.proofs.feeding.take_all.Given as goal

abbrev pub invariant-loop : goal.invariant-loop
invariant-loop g l = l.taker.queue ≡ l.feed
