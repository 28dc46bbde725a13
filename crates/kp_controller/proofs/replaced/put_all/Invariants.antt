-- Those that are left, put into what there is by now, make what all of them make.
use Rattle.std.proofs.Common.{◌≡◌, length}
use Rattle.kp_controller.specs.Replaced.{with_slices}
use Rattle.kp_controller.proofs.replaced.put_all.Given as goal

abbrev pub invariant-loop-slice : goal.invariant-loop-slice
invariant-loop-slice l = with_slices l.left.items l.slices ≡ with_slices l.fn.packed l.fn.slices

abbrev pub decreases-loop-slice : goal.decreases-loop-slice
decreases-loop-slice l = length l.left.items
