-- The endpoints that are wanted of the pods so far were found.
use Rattle.std.proofs.Common.{◌≡◌, take, map}
use Rattle.std.specs.List.{filter_map}
use Rattle.kp_object_defs.specs.Desired.{desired_of}
use Rattle.kp_object_defs.specs.Objects.{zone_of}
use Rattle.kp_store.proofs.wanted.wanted_of_pods.Given as goal

abbrev pub invariant-loop-pod : goal.invariant-loop-pod
invariant-loop-pod l =
    l.wanted.items
    ≡ filter_map (desired_of l.family (zone_of l.objects) l.service) (map (λ p. p.now) (take l.pod-index l.pods))
