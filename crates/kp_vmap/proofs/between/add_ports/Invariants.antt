use Rattle.std.proofs.Common.{◌≡◌, ◌++◌, map, take}
use Rattle.std.specs.List.{flat_map}
use Rattle.kp_object_defs.specs.PortByKey.{port_keys_of}
use Rattle.kp_vmap.proofs.between.add_ports.Given as goal

-- the names of the ports of the Services so far are added
abbrev pub invariant-loop-service : goal.invariant-loop-service
invariant-loop-service l =
    l.keys.items ≡ l.initial.keys.items
    ++ flat_map port_keys_of (map (λ s. s.now) (take l.service-index l.services))
