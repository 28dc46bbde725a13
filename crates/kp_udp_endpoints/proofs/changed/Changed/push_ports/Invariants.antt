use Rattle.std.proofs.Common.{take}
use Rattle.std.specs.List.{flat_map}
use Rattle.kp_types.specs.Setting.{config_for}
use Rattle.kp_udp_endpoints.specs.Changed.{AreAdded}
use Rattle.kp_udp_endpoints.specs.Endpoints.{gone_of, new_of}
use Rattle.kp_udp_endpoints.proofs.changed.Changed.push_ports.Given as goal

-- those of the ports so far are added
abbrev pub invariant-loop-port : goal.invariant-loop-port
invariant-loop-port l =
    AreAdded (flat_map gone_of (take l.port-index l.dirty))
    (flat_map (new_of l.family (config_for l.family l.config) l.objects) (take l.port-index l.dirty))
    l.initial.self l.self
