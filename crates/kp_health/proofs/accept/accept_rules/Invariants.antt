use Rattle.std.proofs.Common.{◌≡◌, map, take}
use Rattle.kp_health_defs.specs.AcceptRules.{accept_rule}
use Rattle.kp_health.proofs.accept.accept_rules.Given as goal

-- the ports so far have their rules
abbrev pub invariant-loop-port : goal.invariant-loop-port
invariant-loop-port l = l.rules.items ≡ map accept_rule (take l.port-index l.port-items)
