use Rattle.std.proofs.Common.{◌+◌, arith}
use Rattle.kp_door_defs.specs.Doors.{fits}
use Rattle.kp_decide.specs.Listed.{group_doors}
use Rattle.kp_decide.proofs.FittingDoors.{more_lists}
use Rattle.kp_decide.proofs.fitting.add_fitting.Goals as goal

-- those of one more port were added
pub loop-port-preserved : goal.loop-port-preserved
loop-port-preserved g c =
    more_lists (fits c.args.config.now.addresses c.args.packet.now)
    c.args.doors.now.items c.loop-port.doors.items c.add_fitting_of.new.doors.items
    (group_doors c.args.group) (g.R.PortRow.infos c.args.ports.now) c.loop-port.port (c.loop-port.port + 1)
    c.info.result.now (omega arith) c.info.ensures c.loop-port.invariant c.in_ok-add_fitting_of.ensures
