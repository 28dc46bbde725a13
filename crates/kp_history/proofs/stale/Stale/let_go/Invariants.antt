use Rattle.std.proofs.Common.{◌≡◌, ◌-◌}
use Rattle.kp_history.proofs.stale.Stale.let_go.Given as goal

-- as many went as the loop has turned
abbrev pub invariant-loop : goal.invariant-loop
invariant-loop g l = l.self ≡ l.fn.self - l.counter
