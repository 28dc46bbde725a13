-- The nodes so far stand by their names.
use Rattle.std.proofs.Common.{◌≡◌, take}
use Rattle.kp_base.specs.Keys.{text_cmp}
use Rattle.kp_object_defs.specs.Order.{by_key}
use Rattle.kp_desired.specs.ByName.{shown}
use Rattle.kp_desired.proofs.zones.nodes_by_name.Given as goal

abbrev pub invariant-loop-node : goal.invariant-loop-node
invariant-loop-node l =
    shown l.by_name.entries ≡ by_key text_cmp (λ n. n.name) (take l.node-index l.nodes)
