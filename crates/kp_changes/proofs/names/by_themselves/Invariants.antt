use Rattle.std.proofs.Common.{◌≡◌, drop, map}
use Rattle.std.specs.Map.Iter.{deref_pair}
use Rattle.kp_base.specs.Keys.{port_key_cmp}
use Rattle.kp_object_defs.specs.Order.{in_order}
use Rattle.kp_changes.proofs.names.by_themselves.Given as goal

-- the names from here on stand in order
abbrev pub invariant-loop-place : goal.invariant-loop-place
invariant-loop-place l =
    map deref_pair l.named.entries
    ≡ in_order port_key_cmp (map (λ k. (k, k)) (drop l.place l.names))
