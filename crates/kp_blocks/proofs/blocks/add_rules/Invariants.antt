use Rattle.std.proofs.Common.{◌≡◌, ◌++◌, take}
use Rattle.kp_blocks.proofs.blocks.add_rules.Given as goal

-- copies of the rules so far were added
abbrev pub invariant-loop-rule : goal.invariant-loop-rule
invariant-loop-rule l = l.rules.items ≡ l.fn.rules.items ++ take l.rule-index l.more
