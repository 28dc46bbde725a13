use Rattle.std.proofs.Common.{map, sym, ap, ◌∙◌}
use Rattle.std.specs.List.{find}
use Rattle.std.specs.Option.{option_or}
use Rattle.kp_types.specs.Setting.{config_for}
use Rattle.kp_types.specs.declared.decision.DoorKind.TheVariants as door
use Rattle.kp_door_defs.specs.Doors.{door_at, fits, takes}
use Rattle.kp_decide.specs.Listed.{if_offers}
use Rattle.kp_decide.proofs.DoorsInPlace.{taking_at}
use Rattle.kp_decide.proofs.doors.taking_address.Goals as goal

-- the door of an external address takes the packet
pub returns-in-Some : goal.returns-in-Some
returns-in-Some c =
    let config = config_for c.args.family c.args.config.now in
    let packet = c.args.packet.now in
    let i = c.args.info.now in
    let first = ap (if_offers config packet) (c.fitting_at-external.ensures config.addresses ∙ (λ j. find (fits config.addresses packet) (map (door_at door.External i) (c.as_slice.ensures j)))) in
    sym (taking_at config packet i ((λ j. takes config packet (sym c.door_at-cluster.ensures j)) ∙ sym c.takes.ensures ∙ c.if-takes.false)
    ∙ ap (λ o. option_or o (if_offers config packet (find (fits config.addresses packet) (map (door_at door.Balancer i) i.balancer))))
    (sym first ∙ sym c.offering.ensures ∙ c.in-Some.is))

-- none does
pub returns-in-None : goal.returns-in-None
returns-in-None c =
    let config = config_for c.args.family c.args.config.now in
    let packet = c.args.packet.now in
    let i = c.args.info.now in
    let first = ap (if_offers config packet) (c.fitting_at-external.ensures config.addresses ∙ (λ j. find (fits config.addresses packet) (map (door_at door.External i) (c.as_slice.ensures j)))) in
    let second = ap (if_offers config packet) (c.fitting_at-balancer.ensures config.addresses ∙ (λ j. find (fits config.addresses packet) (map (door_at door.Balancer i) (c.as_slice-in-None.ensures j)))) in
    c.offering-in-None.ensures
    ∙ second
    ∙ sym (taking_at config packet i ((λ j. takes config packet (sym c.door_at-cluster.ensures j)) ∙ sym c.takes.ensures ∙ c.if-takes.false)
    ∙ ap (λ o. option_or o (if_offers config packet (find (fits config.addresses packet) (map (door_at door.Balancer i) i.balancer))))
    (sym first ∙ sym c.offering.ensures ∙ c.in-None.is))
