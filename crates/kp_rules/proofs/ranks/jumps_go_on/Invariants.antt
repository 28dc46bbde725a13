use Rattle.std.proofs.Common.{◌≡◌, true, take}
use Rattle.std.specs.List.{list_all}
use Rattle.kp_table_defs.specs.Ranks.{goes_on}
use Rattle.kp_rules.proofs.ranks.jumps_go_on.Given as goal

-- each jump so far goes on
abbrev pub invariant-loop-rule : goal.invariant-loop-rule
invariant-loop-rule l = list_all (λ r. goes_on l.table.chains l.name l.rank r.target) (take l.rule-index l.rules) ≡ true
