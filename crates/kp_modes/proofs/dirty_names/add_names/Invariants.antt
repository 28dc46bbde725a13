use Rattle.std.proofs.Common.{◌≡◌, ◌++◌, List, drop, map}
use Rattle.kp_base.specs.Keys.{port_key_cmp}
use Rattle.kp_base.specs.declared.key.PortKey.{PortKey}
use Rattle.kp_object_defs.specs.Order.{distinct_in_order}
use Rattle.kp_modes.proofs.dirty_names.add_names.Given as goal

-- the names from here on are put before the others
abbrev pub invariant-loop-place : goal.invariant-loop-place
invariant-loop-place l =
    (others : List PortKey) → l.initial.names.keys ≡ distinct_in_order port_key_cmp others
    → l.names.keys ≡ distinct_in_order port_key_cmp
    (map (λ d. d.key) (drop l.place l.dirty) ++ others)
