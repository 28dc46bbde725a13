use Rattle.std.proofs.Common.{◌≡◌, ◌++◌, take, map, filter}
use Rattle.kp_object_defs.specs.PortInfo.{port_key_of}
use Rattle.kp_changes.specs.Beside.{may_be_at}
use Rattle.kp_changes.proofs.crowd.add_names.Given as goal

-- the names of those ports so far are added
abbrev pub invariant-loop-port : goal.invariant-loop-port
invariant-loop-port l =
    l.names.items
    ≡ l.initial.names.items
    ++ map (port_key_of l.service) (filter (may_be_at l.door) (take l.port-index l.port-items))
