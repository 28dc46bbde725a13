use Rattle.std.proofs.Common.{◌≡◌, take}
use Rattle.kp_changes.specs.Neighbours.{neighbours_at}
use Rattle.kp_changes.proofs.crowd.neighbours_at.Given as goal

-- those of the doors so far
abbrev pub invariant-loop-door : goal.invariant-loop-door
invariant-loop-door l = l.found.items ≡ neighbours_at l.at (take l.door-index l.doors)
