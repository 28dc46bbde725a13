-- The selected pods so far stand by their names.
use Rattle.std.proofs.Common.{◌≡◌, take}
use Rattle.std.specs.List.{filter}
use Rattle.kp_base.specs.Keys.{key_cmp}
use Rattle.kp_object_defs.specs.Order.{by_key}
use Rattle.kp_object_defs.specs.Desired.{selects}
use Rattle.kp_desired.specs.ByName.{shown}
use Rattle.kp_desired.proofs.order.pods_by_name.Given as goal

abbrev pub invariant-loop-pod : goal.invariant-loop-pod
invariant-loop-pod l =
    shown l.by_name.entries ≡ by_key key_cmp (λ p. p.key) (filter (selects l.service) (take l.pod-index l.pods))
