use Rattle.std.proofs.Common.{◌≡◌}
use Rattle.kp_rules.proofs.ready.link_written.Given as goal

-- the chains stay
abbrev pub invariant-loop-edit : goal.invariant-loop-edit
invariant-loop-edit l = l.chains ≡ l.fn.chains
