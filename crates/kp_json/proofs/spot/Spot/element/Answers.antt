use Rattle.std.proofs.Common.{Some, option_map, sym, ap, ◌∙◌}
use Rattle.kp_json.specs.Places.{item_place}
use Rattle.kp_json.specs.Views.{place_of}
use Rattle.kp_json.proofs.ListPlaces.{element_at}
use Rattle.kp_json.proofs.spot.Spot.element.Goals as goal

pub returns-in-Some : goal.returns-in-Some
returns-in-Some c =
    let p = place_of c.args.self.now in
    ap Some c.element_spot.ensures ∙ ap (option_map (item_place p c.args.i)) (c.in-Some.ensures) ∙ sym (element_at p c.args.i)

pub returns-in-None : goal.returns-in-None
returns-in-None c =
    let p = place_of c.args.self.now in
    ap (option_map (item_place p c.args.i)) (c.in-None.ensures) ∙ sym (element_at p c.args.i)
