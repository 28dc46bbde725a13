use Rattle.std.proofs.Common.{rules, ◌≡◌, ◌<◌, true, Some, None, length, slice_get, sym}
use Rattle.std.specs.List.{find}
use Rattle.std.proofs.lemmas.Option.{slice_get_within}
use Rattle.kp_object_defs.specs.Packing.{is_entry_of}
use Rattle.kp_packer.specs.Views.{left_in}
use Rattle.kp_packer.proofs.Places.{without_none, one_taken, only_one, own_after}
use Rattle.kp_packer.proofs.left.Left.take.Goals as goal

pub returns-in_err-place-clause-rest : goal.returns-in_err-place-clause-rest
returns-in_err-place-clause-rest c =
    let none : find (is_entry_of c.args.entry.now) (left_in c.args.self.now.places.items) ≡ None = search rules in
    sym (without_none (is_entry_of c.args.entry.now) (left_in c.args.self.now.places.items) none)

pub index_mut-requires : goal.index_mut-requires
index_mut-requires c =
    let places = c.args.self.now.places in
    let at : slice_get places.items c.in_ok-place.place ≡ Some (Some c.in_ok-place.endpoint) = search rules in
    let within : c.in_ok-place.place < length places.items = slice_get_within places.items c.in_ok-place.place (Some c.in_ok-place.endpoint) at in
    search rules

pub returns-clause-rest : goal.returns-clause-rest
returns-clause-rest c =
    let places = c.args.self.now.places.items in
    let entry = c.args.entry.now in
    let at : slice_get places c.in_ok-place.place ≡ Some (Some c.in_ok-place.endpoint) = search rules in
    let fits : is_entry_of entry c.in_ok-place.endpoint.now ≡ true = search rules in
    one_taken (is_entry_of entry) places c.in_ok-place.place c.in_ok-place.endpoint at fits
    (only_one c.args.self.now.by_pod.entries places c.requires.own entry c.in_ok-place.place c.in_ok-place.endpoint at fits)

pub returns-clause-own : goal.returns-clause-own
returns-clause-own c = own_after c.args.self.now.by_pod.entries c.args.self.now.places.items c.in_ok-place.place c.requires.own
