use Rattle.std.proofs.Common.{rules, ◌≡◌, ◌∙◌, Bool, Some, None, ap, length}
use Rattle.std.specs.List.{position}
use Rattle.kp_object_defs.specs.Packing as spec
use Rattle.kp_packer.specs.Views.{shown, filling_of}
use Rattle.kp_packer.proofs.Placing.{given_first, given_none}
use Rattle.kp_packer.proofs.place.fill_first.Goals as goal

pub returns-in_ok-take_more : goal.returns-in_ok-take_more
returns-in_ok-take_more c =
    let fills = c.args.fills.now.items in
    let test : spec.Filling → Bool = spec.is_as_full c.args.most (length c.args.more.now) c.args.size in
    let at : position (λ f. test (filling_of f)) fills ≡ Some c.in-Some.place = search rules in
    given_first filling_of test (shown c.args.more.now) fills c.in-Some.place c.take_more.new.self c.index_mut.result.now at
    (c.in_ok-take_more.ensures ∙ ap (λ f. spec.with_more (filling_of f) (shown c.args.more.now)) c.index_mut.ensures.value)

pub returns-in_default : goal.returns-in_default
returns-in_default c =
    let fills = c.args.fills.now.items in
    let test : spec.Filling → Bool = spec.is_as_full c.args.most (length c.args.more.now) c.args.size in
    let none : position (λ f. test (filling_of f)) fills ≡ None = search rules in
    given_none filling_of test (shown c.args.more.now) fills none
