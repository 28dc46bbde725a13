-- Those so far that the Service selects were found.
use Rattle.std.proofs.Common.{◌≡◌, map, take, filter}
use Rattle.kp_object_defs.specs.Desired.{selects}
use Rattle.kp_store.proofs.selections.pods_selected.Given as goal

abbrev pub invariant-loop-pod : goal.invariant-loop-pod
invariant-loop-pod l =
    map (λ p. p.now) l.selected.items
    ≡ filter (selects l.service) (map (λ p. p.now) (take l.pod-index l.pods))
