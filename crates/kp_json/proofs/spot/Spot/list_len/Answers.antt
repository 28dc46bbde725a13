use Rattle.std.proofs.Common.{Ok, sym, ap, ◌∙◌, length}
use Rattle.kp_json.specs.Views.{place_of}
use Rattle.kp_json.proofs.ListPlaces.{list_len_found, length-places}
use Rattle.kp_json.proofs.spot.Spot.list_len.Goals as goal

-- there are as many places as elements of the vector
pub returns-in-Some : goal.returns-in-Some
returns-in-Some c =
    let p = place_of c.args.self.now in
    list_len_found p _ (sym (c.in-Some.ensures)) ∙ ap Ok (length-places p c.in-Some.items.now.items ∙ ap length (sym c.as_slice.ensures.value))
