use Rattle.std.proofs.Common.{◌≡◌, take, map}
use Rattle.kp_object_defs.specs.PortInfo.{port_key_of}
use Rattle.kp_health.specs.BothFamilies.{entries_of_sources}
use Rattle.kp_health.proofs.entries.entries_of_ports.Given as goal

-- the ports so far have their endpoints
abbrev pub invariant-loop-port : goal.invariant-loop-port
invariant-loop-port l =
    l.per_port.items
    ≡ map (λ p. entries_of_sources l.config.node l.four l.six (port_key_of l.service p))
    (take l.port-index l.service.ports)
