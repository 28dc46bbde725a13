use Rattle.std.proofs.Common.{◌≡◌, map, take}
use Rattle.kp_health.proofs.answers.HealthCounts.ports.Given as goal

-- the ports so far are there
abbrev pub invariant-loop-health : goal.invariant-loop-health
invariant-loop-health l =
    l.ports.items
    ≡ map (λ h. h.port) (map (λ h. h.now) (take l.health-index l.health-items))
