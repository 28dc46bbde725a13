use Rattle.std.proofs.Common.{◌≡◌, ◌++◌, map, take}
use Rattle.kp_object_defs.specs.PortInfo.{port_key_of}
use Rattle.kp_vmap.proofs.between.add_ports_of.Given as goal

-- the names of the ports so far are added
abbrev pub invariant-loop-port : goal.invariant-loop-port
invariant-loop-port l =
    l.keys.items ≡ l.initial.keys.items
    ++ map (port_key_of l.service) (take l.port-index l.port-items)
