use Rattle.std.proofs.Common.{◌≡◌, ◌≤◌, length}
use Rattle.kp_run_tests.proofs.feeding.feed_all.Given as goal

abbrev pub invariant-loop-turn : goal.invariant-loop-turn
invariant-loop-turn g l = (l.pass.queue ≡ l.feed) × (length l.pass.fed ≤ l.turn)
