use Rattle.std.proofs.Common.{rules, ◌≡◌, true, ◌++◌, map, cond, [], sym, ap, ◌∙◌, option_map}
use Rattle.std.specs.List.{find}
use Rattle.kp_types.specs.declared.decision.DoorKind.TheVariants as door
use Rattle.kp_object_defs.specs.Desired.{is_empty}
use Rattle.kp_object_defs.specs.PortInfo.{external_list}
use Rattle.kp_door_defs.specs.Doors.{door_at, fits, node_door}
use Rattle.kp_door_defs.specs.Filter.{Line, line_of, refusal_by}
use Rattle.kp_decide.proofs.DoorsInPlace.{lined}
use Rattle.kp_decide.proofs.lines.external_line.Goals as goal

pub returns-then-is_empty : goal.returns-then-is_empty
returns-then-is_empty c =
    let i = c.args.info.now in
    let own = c.args.config.now.addresses in
    let packet = c.args.packet.now in
    let doors = map (door_at door.External i) i.external ++ map (door_at door.Balancer i) i.balancer ++ node_door i i.node_port in
    let none : is_empty (external_list i) ≡ true = search rules in
    c.line_of.ensures
    ∙ (λ j. option_map (line_of (c.refusal_by.ensures j)) (c.outer_door.ensures j))
    ∙ sym (lined own packet (refusal_by i.lists.has_any) doors)
    ∙ ap (λ b. find (λ (l : Line). fits own packet l.door) (cond b (map (line_of (refusal_by i.lists.has_any)) doors) [])) (sym none)
