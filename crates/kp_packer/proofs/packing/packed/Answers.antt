use Rattle.std.proofs.Common.{◌≡◌, ◌∙◌, map, ap, filter}
use Rattle.std.specs.List.{flat_map}
use Rattle.std.proofs.lemmas.Result.{IfOk-weaker}
use Rattle.kp_object_defs.specs.Packing as spec
use Rattle.kp_object_defs.specs.Packing.{is_left_over}
use Rattle.kp_packer.specs.Views.{shown, filling_of, new_slice_of}
use Rattle.kp_packer.proofs.Whole.{no_group}
use Rattle.kp_packer.proofs.packing.packed.Goals as goal

pub returns : goal.returns
returns c =
    let before = c.args.before.now in
    let wanted = c.args.wanted.now in
    let service = c.args.service.now in
    let most = c.args.most in
    let keys = c.in_ok-groups.groups.keys in
    let packed = spec.pack_groups most (spec.in_slice_order before) wanted in
    let same : spec.pack_groups most (spec.in_slice_order c.as_slice-before.result.now) c.as_slice-wanted.result.now ≡ packed =
    λ i. spec.pack_groups most (spec.in_slice_order (c.as_slice-before.ensures i)) (c.as_slice-wanted.ensures i) in
    let groups : map (λ k. k.items) keys ≡ spec.groups_of wanted = c.in_ok-groups.ensures ∙ ap spec.groups_of c.as_slice-wanted.ensures in
    let over : shown c.in_ok-left_over.left_over.items ≡ filter (is_left_over wanted) before =
    c.in_ok-left_over.ensures ∙ ap (filter _) c.as_slice-before.ensures ∙ no_group (λ k. k.items) wanted keys groups before in
    let fills : map filling_of c.deref-2.result.now ≡ flat_map (λ g. g.fillings) packed =
    ap (map filling_of) c.deref-2.ensures.value ∙ c.in_ok-packing.ensures.fills ∙ ap (flat_map (λ g. g.fillings)) same in
    let new : map new_slice_of c.deref.result.now ≡ flat_map (λ g. g.made) packed =
    ap (map new_slice_of) c.deref.ensures.value ∙ c.in_ok-packing.ensures.made ∙ ap (flat_map (λ g. g.made)) same in
    let made : c.in_ok-made.made.items ≡ spec.new_slices c.args.family service c.args.taken.now (flat_map (λ g. g.made) packed) =
    c.in_ok-made.ensures ∙ (λ j. spec.new_slices c.args.family service (c.as_slice.ensures j) (new j)) in
    record { exact = IfOk-weaker c.packed_by.result _ _ (λ p is. is ∙ (λ j. spec.packed_by (over j) (fills j) (made j))) c.packed_by.ensures }
