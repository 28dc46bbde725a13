use Rattle.std.proofs.Common.{◌+◌, ◌-◌, ◌≤◌, length, take}
use Rattle.kp_udp_endpoints.specs.Changed.{AreAdded}
use Rattle.kp_udp_endpoints.proofs.changed.Changed.push_apart.Given as goal

-- both lists are passed up to these places
abbrev pub invariant-loop-was : goal.invariant-loop-was
invariant-loop-was l = record {
  was_in : l.was ≤ length l.before;
  is_in : l.is ≤ length l.after;
  added : AreAdded (take l.was l.before) (take l.is l.after) l.initial.self l.self;
}

abbrev pub decreases-loop-was : goal.decreases-loop-was
decreases-loop-was l = (length l.before - l.was) + (length l.after - l.is)
