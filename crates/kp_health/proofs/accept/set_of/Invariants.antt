use Rattle.std.proofs.Common.{◌≡◌, drop}
use Rattle.std.specs.Ordering.{nat_cmp}
use Rattle.kp_object_defs.specs.Order.{distinct_in_order}
use Rattle.kp_health.proofs.accept.set_of.Given as goal

-- the ports from here on are there
abbrev pub invariant-loop-i : goal.invariant-loop-i
invariant-loop-i l = l.numbers.keys ≡ distinct_in_order nat_cmp (drop l.i l.ports)
