use Rattle.std.proofs.Common.{◌≤◌, ap, sym, refl, ◌∙◌, map, length, arith}
use Rattle.std.proofs.lemmas.List.{take_all}
use Rattle.std.proofs.lemmas.Result.{IfOk-weaker}
use Rattle.kp_packer.specs.Views.{shown}
use Rattle.kp_packer.proofs.Ordering.{values-shown}
use Rattle.std.specs.FinMap.{put}
use Rattle.kp_base.specs.Keys.{text_cmp}
use Rattle.kp_object_defs.specs.Order.{values_of, by_key}
use Rattle.kp_object_defs.proofs.InOrder.{insert-through, by_key-take}
use Rattle.std.specs.Map.Iter.{deref_pair}
use Rattle.kp_packer.proofs.order.slices_in_order.Goals as goal

pub loop-slice-preserved : goal.loop-slice-preserved
loop-slice-preserved c =
    let slice = c.slice-item.result in
    ap (map deref_pair) c.in_ok-insert.ensures.entries
    ∙ insert-through text_cmp (λ b. b.now) (λ b. b.now) (λ a b. refl) c.loop-slice.by_name.entries _ _
    ∙ ap (put text_cmp slice.key.name slice) c.loop-slice.invariant
    ∙ sym (by_key-take text_cmp (λ s. s.key.name) c.args.slices.now c.loop-slice.slice-index slice c.loop-slice-test.true c.slice-item.is)

pub returns : goal.returns
returns c =
    let entries = c.loop-slice.by_name.entries in
    let past : length c.args.slices.now ≤ c.loop-slice.slice-index = omega (arith, c.loop-slice-test.false) in
    IfOk-weaker c.values.result _ _ (λ sorted is.
    ap shown is ∙ values-shown entries ∙ ap values_of c.loop-slice.invariant
    ∙ ap (λ l. values_of (by_key text_cmp (λ s. s.key.name) l)) (take_all c.loop-slice.slice-index c.args.slices.now past)) c.values.ensures
