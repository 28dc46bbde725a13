use Rattle.std.proofs.Common.{sym, ◌∙◌}
use Rattle.std.proofs.lemmas.Bool.{or_parts}
use Rattle.kp_controller.proofs.BothFamilies.{first_is_all, first_settles, none_there, second_is_all, second_settles, six_stay}
use Rattle.kp_controller.proofs.managed.pack_service.Goals as goal

pub returns-then-not-is_due-clause-packed : goal.returns-then-not-is_due-clause-packed
returns-then-not-is_due-clause-packed c =
    let none = or_parts _ _ (sym c.is_due.ensures ∙ c.if-not-is_due.true) in
    first_is_all c.packing_settles.ensures.other_family c.args.config.now.max_per_slice
    c.args.objects.now c.args.service.now c.args.config.now.slice_from c.args.slices.now
    c.pack_family.new.slices c.own_keys.ensures c.in_ok-pack_family.ensures.packed
    c.packing_settles.ensures.stay c.requires.own none.0
    (sym c.in_ok-four.ensures.six ∙ sym c.as_slice.ensures ∙ none_there _ none.1)

pub returns-then-not-is_due-clause-settled : goal.returns-then-not-is_due-clause-settled
returns-then-not-is_due-clause-settled c =
    let none = or_parts _ _ (sym c.is_due.ensures ∙ c.if-not-is_due.true) in
    first_settles c.packing_settles.ensures.other_family c.args.config.now.max_per_slice
    c.args.objects.now c.args.service.now c.args.config.now.slice_from c.args.slices.now
    c.pack_family.new.slices c.own_keys.ensures c.in_ok-pack_family.ensures.packed
    c.packing_settles.ensures.stay c.requires.own none.0
    (sym c.in_ok-four.ensures.six ∙ sym c.as_slice.ensures ∙ none_there _ none.1)
    c.in_ok-pack_family.ensures.settled

pub pack_family-requires-2-clause-managed : goal.pack_family-requires-2-clause-managed
pack_family-requires-2-clause-managed c =
    c.in_ok-four.ensures.six
    ∙ sym (six_stay c.packing_settles.ensures.other_family c.args.config.now.max_per_slice
    c.args.objects.now c.args.service.now c.args.config.now.slice_from c.args.slices.now
    c.pack_family.new.slices c.own_keys.ensures c.in_ok-pack_family.ensures.packed)

pub returns-clause-packed : goal.returns-clause-packed
returns-clause-packed c =
    second_is_all c.packing_settles.ensures.other_family c.args.config.now.max_per_slice
    c.args.objects.now c.args.service.now c.args.config.now.slice_from c.args.slices.now
    c.pack_family.new.slices c.own_keys.ensures c.in_ok-pack_family.ensures.packed
    c.pack_family-2.new.slices c.in_ok-pack_family-2.ensures.packed

pub returns-clause-settled : goal.returns-clause-settled
returns-clause-settled c =
    second_settles c.packing_settles.ensures.other_family c.args.config.now.max_per_slice
    c.args.objects.now c.args.service.now c.args.config.now.slice_from c.args.slices.now
    c.pack_family.new.slices c.own_keys.ensures c.in_ok-pack_family.ensures.packed
    c.pack_family-2.new.slices c.in_ok-pack_family-2.ensures.packed
    c.in_ok-pack_family.ensures.settled c.in_ok-pack_family-2.ensures.settled
