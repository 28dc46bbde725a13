-- The endpoints that are wanted of the pods so far were found.
use Rattle.std.proofs.Common.{◌≡◌, take, map}
use Rattle.std.specs.List.{filter_map}
use Rattle.kp_object_defs.specs.Desired.{desired_of}
use Rattle.kp_desired.specs.ByName.{shown, zone_in}
use Rattle.kp_desired.proofs.wanted.wanted_of.Given as goal

abbrev pub invariant-loop-pod : goal.invariant-loop-pod
invariant-loop-pod l =
    l.wanted.items
    ≡ filter_map (desired_of l.family (zone_in (shown l.nodes.entries)) l.service) (map (λ p. p.now) (take l.pod-index l.pods))
