-- They stand after some of the syncs.
use Rattle.std.proofs.Common.{length, ◌-◌}
use Rattle.kp_plane.specs.Invariant.{IsSlicesAt}
use Rattle.kp_plane.proofs.slices_at.SlicesAt.caught_up.Given as goal

abbrev pub invariant-loop-slices : goal.invariant-loop-slices
invariant-loop-slices l = IsSlicesAt l.config l.events l.counts l.slices

abbrev pub decreases-loop-slices : goal.decreases-loop-slices
decreases-loop-slices l = length l.counts - l.slices.syncs
