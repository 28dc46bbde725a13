use Rattle.std.proofs.Common.{sym, ap, ◌∙◌}
use Rattle.std.specs.List.{find}
use Rattle.kp_types.specs.Setting.{config_for}
use Rattle.kp_door_defs.specs.Doors.{takes}
use Rattle.kp_decide.specs.Listed.{group_doors, if_offers}
use Rattle.kp_decide.proofs.DoorsInPlace.{taking_node}
use Rattle.kp_decide.proofs.doors.taking_in.Goals as goal

pub returns-in-AtNodePorts : goal.returns-in-AtNodePorts
returns-in-AtNodePorts c =
    let config = config_for c.args.family c.args.config.now in
    let packet = c.args.packet.now in
    let i = c.args.info.now in
    c.offering.ensures
    ∙ ap (if_offers config packet) c.fitting_node.ensures
    ∙ sym (taking_node config packet i i.node_port)
    ∙ ap (λ g. find (takes config packet) (group_doors g i)) (sym c.in-AtNodePorts.is)
