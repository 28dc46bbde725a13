use Rattle.std.proofs.Common.{◌≡◌, ◌++◌, map, take}
use Rattle.kp_table_defs.specs.Layout.{rule_at}
use Rattle.kp_chains.proofs.rules.add_rules_at.Given as goal

-- the rules for the addresses so far were added
abbrev pub invariant-loop-address : goal.invariant-loop-address
invariant-loop-address l =
    l.rules.items ≡ l.fn.rules.items ++ map (rule_at l.info l.target) (take l.address-index l.addresses)
