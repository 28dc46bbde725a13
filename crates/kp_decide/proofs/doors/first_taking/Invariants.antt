-- No door of the ports so far takes the packet.
use Rattle.std.proofs.Common.{◌≡◌, take, flat_map, None}
use Rattle.std.specs.List.{find}
use Rattle.kp_types.specs.Setting.{config_for}
use Rattle.kp_door_defs.specs.Doors.{takes}
use Rattle.kp_decide.specs.Listed.{group_doors}
use Rattle.kp_decide.proofs.doors.first_taking.Given as goal

abbrev pub invariant-loop-port : goal.invariant-loop-port
invariant-loop-port g l =
    find (takes (config_for l.family l.config) l.packet)
    (flat_map (group_doors l.group) (take l.port (g.R.PortRow.infos l.ports))) ≡ None
