use Rattle.std.proofs.Common.{rules, ◌≡◌, ◌&&◌, true, map, cond, [], option_map, is_some, sym, ap, ◌∙◌}
use Rattle.std.specs.List.{find}
use Rattle.kp_types.specs.declared.decision.DoorKind.TheVariants as door
use Rattle.kp_door_defs.specs.Doors.{door_at, fits}
use Rattle.kp_door_defs.specs.Filter.{Line, DropsClosed, line_of}
use Rattle.kp_decide.proofs.DoorsInPlace.{lined_at}
use Rattle.kp_decide.proofs.lines.firewall_line.Goals as goal

-- there are ranges and endpoints
pub returns-then-info : goal.returns-then-info
returns-then-info c =
    let i = c.args.info.now in
    let own = c.args.config.now.addresses in
    let packet = c.args.packet.now in
    let closed : (is_some i.ranges && i.lists.has_any) ≡ true = search rules in
    c.line_of.ensures
    ∙ ap (option_map (line_of DropsClosed)) (c.fitting_at-balancer.ensures own ∙ (λ j. find (fits own packet) (map (door_at door.Balancer i) (c.as_slice.ensures j))))
    ∙ sym (lined_at own packet DropsClosed door.Balancer i i.balancer)
    ∙ ap (λ b. find (λ (l : Line). fits own packet l.door) (cond b (map (λ a. line_of DropsClosed (door_at door.Balancer i a)) i.balancer) [])) (sym closed)
