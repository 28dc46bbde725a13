-- The objects are those of the events so far.
use Rattle.std.proofs.Common.{◌≡◌, ◌≤◌}
use Rattle.kp_plane.specs.Invariant.{IsAtPlace}
use Rattle.kp_plane.proofs.place.ObjectsAt.advance.Given as goal

abbrev pub invariant-loop-at : goal.invariant-loop-at
invariant-loop-at l = IsAtPlace l.events l.self × (l.self.at ≡ l.at) × (l.fn.self.at ≤ l.at)
