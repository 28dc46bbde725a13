use Rattle.std.proofs.Common.{rules, ◌≡◌, ◌∙◌, None, true, ap, sym}
use Rattle.std.specs.List.{find}
use Rattle.kp_object_defs.specs.Packing as spec
use Rattle.kp_packer.specs.Views.{left_in, keeping_of}
use Rattle.kp_packer.proofs.Places.{without_none}
use Rattle.kp_packer.proofs.keep.keep_entry.Goals as goal

pub returns-in-None-clause-kept : goal.returns-in-None-clause-kept
returns-in-None-clause-kept c =
    let left = left_in c.args.left.now.places.items in
    let entry = c.args.entry.now in
    let before = keeping_of c.args.fill.now c.args.left.now.places.items in
    let none : find (spec.is_entry_of entry) left ≡ None = search rules in
    let same = c.take.ensures.rest ∙ without_none (spec.is_entry_of entry) left none in
    (λ i. record { filling = record before.filling { is_changed = true }; left = same i })
    ∙ sym (ap (spec.kept_or_dropped c.args.most before entry) none)
