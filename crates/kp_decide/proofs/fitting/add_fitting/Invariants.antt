-- The doors of the ports so far that the packet fits were added.
use Rattle.std.proofs.Common.{◌≡◌, ◌++◌, take, filter, flat_map}
use Rattle.kp_door_defs.specs.Doors.{fits}
use Rattle.kp_decide.specs.Listed.{group_doors}
use Rattle.kp_decide.proofs.fitting.add_fitting.Given as goal

abbrev pub invariant-loop-port : goal.invariant-loop-port
invariant-loop-port g l =
    l.doors.items
    ≡ l.initial.doors.items ++ filter (fits l.config.addresses l.packet)
    (flat_map (group_doors l.group) (take l.port (g.R.PortRow.infos l.ports)))
