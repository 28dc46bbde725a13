use Rattle.std.proofs.Common.{◌≡◌, ◌+◌}
use Rattle.kp_chains.proofs.count.count_rules.Given as goal

-- a step was taken for each rule so far
abbrev pub invariant-loop-rule : goal.invariant-loop-rule
invariant-loop-rule g l = l.steps ≡ l.fn.steps + l._rule-index
