use Rattle.std.proofs.Common.{◌≡◌, map, None, Some, sym, ◌∙◌}
use Rattle.std.specs.List.{find}
use Rattle.std.specs.Option.{option_or}
use Rattle.kp_types.specs.declared.decision.DoorKind.TheVariants as door
use Rattle.kp_door_defs.specs.Doors.{door_at, fits, node_door}
use Rattle.kp_decide.proofs.FoundSoFar.{in_three}
use Rattle.kp_decide.proofs.lines.outer_door.Goals as goal

-- at an external address
pub returns-in-Some : goal.returns-in-Some
returns-in-Some c =
    let i = c.args.info.now in
    let p = fits c.args.config.now.addresses c.args.packet.now in
    let balancers = map (door_at door.Balancer i) i.balancer in
    let at_node = node_door i i.node_port in
    let first : find p (map (door_at door.External i) i.external) ≡ Some c.in-Some.door = (λ j. find p (map (door_at door.External i) (sym c.as_slice.ensures j))) ∙ sym (c.fitting_at.ensures c.args.config.now.addresses) ∙ c.in-Some.is in
    sym (in_three p (map (door_at door.External i) i.external) balancers at_node
    ∙ (λ j. option_or (option_or (first j) (find p balancers)) (find p at_node)))

-- at the address of a load balancer
pub returns-in-Some-fitting_at : goal.returns-in-Some-fitting_at
returns-in-Some-fitting_at c =
    let i = c.args.info.now in
    let p = fits c.args.config.now.addresses c.args.packet.now in
    let at_node = node_door i i.node_port in
    let first : find p (map (door_at door.External i) i.external) ≡ None = (λ j. find p (map (door_at door.External i) (sym c.as_slice.ensures j))) ∙ sym (c.fitting_at.ensures c.args.config.now.addresses) ∙ c.in-None.is in
    let second : find p (map (door_at door.Balancer i) i.balancer) ≡ Some c.in-Some-fitting_at.door = (λ j. find p (map (door_at door.Balancer i) (sym c.as_slice-in-None.ensures j))) ∙ sym (c.fitting_at-in-None.ensures c.args.config.now.addresses) ∙ c.in-Some-fitting_at.is in
    sym (in_three p (map (door_at door.External i) i.external) (map (door_at door.Balancer i) i.balancer) at_node
    ∙ (λ j. option_or (option_or (first j) (second j)) (find p at_node)))

-- at the node port
pub returns-in-None-fitting_at : goal.returns-in-None-fitting_at
returns-in-None-fitting_at c =
    let i = c.args.info.now in
    let p = fits c.args.config.now.addresses c.args.packet.now in
    let at_node = node_door i i.node_port in
    let first : find p (map (door_at door.External i) i.external) ≡ None = (λ j. find p (map (door_at door.External i) (sym c.as_slice.ensures j))) ∙ sym (c.fitting_at.ensures c.args.config.now.addresses) ∙ c.in-None.is in
    let second : find p (map (door_at door.Balancer i) i.balancer) ≡ None = (λ j. find p (map (door_at door.Balancer i) (sym c.as_slice-in-None.ensures j))) ∙ sym (c.fitting_at-in-None.ensures c.args.config.now.addresses) ∙ c.in-None-fitting_at.is in
    c.fitting_node.ensures
    ∙ sym (in_three p (map (door_at door.External i) i.external) (map (door_at door.Balancer i) i.balancer) at_node
    ∙ (λ j. option_or (option_or (first j) (second j)) (find p at_node)))
