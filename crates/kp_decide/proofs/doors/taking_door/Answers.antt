use Rattle.std.proofs.Common.{option_map, sym, ap, ◌∙◌}
use Rattle.std.specs.List.{find, flat_map}
use Rattle.std.specs.Option.{option_or}
use Rattle.std.proofs.lemmas.List.Folds.{find-append}
use Rattle.kp_types.specs.Setting.{config_for}
use Rattle.kp_door_defs.specs.Doors.{address_doors, node_door, takes}
use Rattle.kp_decide.specs.declared.doors.Taking.{Taking}
use Rattle.kp_decide.proofs.doors.taking_door.Goals as goal

-- a door at an address takes the packet
pub returns-in-Some-clause-door : goal.returns-in-Some-clause-door
returns-in-Some-clause-door g c =
    let p = takes (config_for c.args.family c.args.config.now) c.args.packet.now in
    let infos = g.R.PortRow.infos c.args.ports.now in
    let at_nodes = flat_map (λ i. node_door i i.node_port) infos in
    sym (find-append p (flat_map address_doors infos) at_nodes
    ∙ ap (λ o. option_or o (find p at_nodes)) (sym c.first_taking.ensures.door ∙ ap (option_map (λ (t : Taking). t.door)) c.in-Some.is))

-- none does
pub returns-in-None-clause-door : goal.returns-in-None-clause-door
returns-in-None-clause-door g c =
    let p = takes (config_for c.args.family c.args.config.now) c.args.packet.now in
    let infos = g.R.PortRow.infos c.args.ports.now in
    let at_nodes = flat_map (λ i. node_door i i.node_port) infos in
    c.first_taking-in-None.ensures.door
    ∙ sym (find-append p (flat_map address_doors infos) at_nodes
    ∙ ap (λ o. option_or o (find p at_nodes)) (sym c.first_taking.ensures.door ∙ ap (option_map (λ (t : Taking). t.door)) c.in-None.is))
