use Rattle.std.proofs.Common.{◌≡◌, ◌++◌, take, string_bytes}
use Rattle.std.specs.List.{flat_map}
use Rattle.kp_restore_text.specs.Printed.{rules_at}
use Rattle.kp_restore_text.proofs.print.push_rules.Given as goal

-- the rules of the chains so far
abbrev pub invariant-loop-at : goal.invariant-loop-at
invariant-loop-at l = string_bytes l.text ≡ string_bytes l.initial.text ++ flat_map (rules_at l.table.chains) (take l.at-index l.places)
