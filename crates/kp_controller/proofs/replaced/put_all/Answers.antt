use Rattle.std.proofs.Common.{ap, sym, ◌∙◌}
use Rattle.std.specs.FinMap as finite
use Rattle.kp_types.specs.declared.slice.Slice.{Slice}
use Rattle.kp_controller.specs.Replaced.{with_slices}
use Rattle.kp_controller.proofs.Packed.{put_last}
use Rattle.kp_controller.proofs.replaced.put_all.Goals as goal

pub loop-slice-preserved : goal.loop-slice-preserved
loop-slice-preserved c =
    let rest = c.pop.new.self.items in
    ap (with_slices rest) (c.in_ok-put.ensures.ok ∙ ap (λ (s : Slice). finite.insert c.loop-slice.slices s.key s) c.in_ok-of.ensures)
    ∙ sym (put_last rest c.in-Some.slice c.loop-slice.slices)
    ∙ ap (λ ss. with_slices ss c.loop-slice.slices) (sym c.in-Some.ensures.items)
    ∙ c.loop-slice.invariant
