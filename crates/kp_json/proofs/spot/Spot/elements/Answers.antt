use Rattle.std.proofs.Common.{Ok, sym, ap, ◌∙◌}
use Rattle.kp_json.specs.Paths.{way_path}
use Rattle.kp_json.specs.Views.{place_of}
use Rattle.kp_json.proofs.ListPlaces.{elements_found, elements_of_found, all_elements_left}
use Rattle.kp_json.proofs.spot.Spot.elements.Goals as goal

-- the elements that are left are those of the vector
pub returns-in-Some-clause-all : goal.returns-in-Some-clause-all
returns-in-Some-clause-all c =
    let p = place_of c.args.self.now in
    elements_found p _ (sym (c.in-Some.ensures))
    ∙ ap Ok (all_elements_left p c.new.result _ (c.new.ensures.items ∙ c.as_slice.ensures.value) c.new.ensures.index (ap way_path c.new.ensures.way))

pub returns-in-Some-clause-these : goal.returns-in-Some-clause-these
returns-in-Some-clause-these c =
    let p = place_of c.args.self.now in
    sym (all_elements_left p c.new.result _ (c.new.ensures.items ∙ c.as_slice.ensures.value) c.new.ensures.index (ap way_path c.new.ensures.way))
    ∙ sym (elements_of_found p _ (sym (c.in-Some.ensures)))
