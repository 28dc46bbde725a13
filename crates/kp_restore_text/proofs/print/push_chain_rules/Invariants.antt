use Rattle.std.proofs.Common.{◌≡◌, ◌++◌, map, take, string_bytes}
use Rattle.kp_restore_defs.specs.RuleText.{rule_line}
use Rattle.kp_restore_defs.specs.TableText.{text_of_lines}
use Rattle.kp_restore_text.proofs.print.push_chain_rules.Given as goal

-- the lines so far
abbrev pub invariant-loop-rule : goal.invariant-loop-rule
invariant-loop-rule l = string_bytes l.text ≡ string_bytes l.initial.text ++ text_of_lines (map (rule_line l.chain) (take l.rule-index l.rules))
