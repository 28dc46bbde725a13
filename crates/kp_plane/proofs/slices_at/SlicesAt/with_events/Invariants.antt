-- They stand after some of the events, as the controller left them but for what these touched.
use Rattle.std.proofs.Common.{◌≤◌, ◌-◌}
use Rattle.kp_plane.specs.Invariant.{IsFed}
use Rattle.kp_plane.proofs.slices_at.SlicesAt.with_events.Given as goal

abbrev pub invariant-loop-slices : goal.invariant-loop-slices
invariant-loop-slices l =
    IsFed l.config l.events l.slices.place.at l.fn.self l.slices × (l.slices.place.at ≤ l.to)

abbrev pub decreases-loop-slices : goal.decreases-loop-slices
decreases-loop-slices l = l.to - l.slices.place.at
