use Rattle.std.proofs.Common.{◌≡◌, ◌++◌, map, take, string_bytes}
use Rattle.std.specs.List.{flat_map}
use Rattle.kp_health_defs.specs.HealthText.{health_line}
use Rattle.kp_health.proofs.line.push_lines.Given as goal

-- the lines so far are added
abbrev pub invariant-loop-health : goal.invariant-loop-health
invariant-loop-health l =
    string_bytes l.text
    ≡ string_bytes l.initial.text
    ++ flat_map health_line (map (λ h. h.now) (take l.health-index l.healths))
