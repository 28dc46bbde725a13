use Rattle.std.proofs.Common.{◌≡◌, drop}
use Rattle.kp_base.specs.Keys.{port_key_cmp}
use Rattle.kp_object_defs.specs.Order.{distinct_in_order}
use Rattle.kp_vmap.proofs.between.set_of.Given as goal

-- the names from here on stand in order
abbrev pub invariant-loop-place : goal.invariant-loop-place
invariant-loop-place l = l.seen.keys ≡ distinct_in_order port_key_cmp (drop l.place l.keys)
