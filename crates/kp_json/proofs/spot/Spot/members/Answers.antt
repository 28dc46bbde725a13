use Rattle.std.proofs.Common.{Ok, sym, ap, ◌∙◌, arith}
use Rattle.kp_json.specs.Paths.{way_path}
use Rattle.kp_json.specs.Views.{place_of}
use Rattle.kp_json.proofs.ListPlaces.{members_found, members_of_found, all_left, length-members_left}
use Rattle.kp_json.proofs.spot.Spot.members.Goals as goal

-- the members that are left are those of the map's entries
pub returns-in-Some-clause-all : goal.returns-in-Some-clause-all
returns-in-Some-clause-all c =
    let p = place_of c.args.self.now in
    members_found p _ (sym (c.in-Some.ensures))
    ∙ ap Ok (all_left p c.new.result _ (c.new.ensures.rest ∙ c.iter.ensures.rest) (ap way_path c.new.ensures.way))

pub returns-in-Some-clause-these : goal.returns-in-Some-clause-these
returns-in-Some-clause-these c =
    let p = place_of c.args.self.now in
    sym (all_left p c.new.result _ (c.new.ensures.rest ∙ c.iter.ensures.rest) (ap way_path c.new.ensures.way))
    ∙ sym (members_of_found p _ (sym (c.in-Some.ensures)))

pub returns-in-Some-clause-fits : goal.returns-in-Some-clause-fits
returns-in-Some-clause-fits c =
    let few = length-members_left c.new.result _ (c.new.ensures.rest ∙ c.iter.ensures.rest) in
    omega (arith, few, c.iter.ensures.fits)
