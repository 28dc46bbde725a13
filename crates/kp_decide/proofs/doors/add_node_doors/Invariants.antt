-- The doors of the node ports so far were added.
use Rattle.std.proofs.Common.{◌≡◌, ◌++◌, take}
use Rattle.std.specs.List.{flat_map}
use Rattle.kp_door_defs.specs.Doors.{node_door}
use Rattle.kp_decide.proofs.doors.add_node_doors.Given as goal

abbrev pub invariant-loop-info : goal.invariant-loop-info
invariant-loop-info l =
    l.doors.items
    ≡ l.initial.doors.items ++ flat_map (λ i. node_door i i.node_port) (take l.info-index l.infos)
