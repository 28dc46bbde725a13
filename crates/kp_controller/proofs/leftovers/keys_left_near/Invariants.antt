-- Those near to the Services so far were added.
use Rattle.std.proofs.Common.{◌≡◌, map, take, flat_map}
use Rattle.kp_controller.specs.Settling.{left_near}
use Rattle.kp_controller.proofs.leftovers.keys_left_near.Given as goal

abbrev pub invariant-loop-service : goal.invariant-loop-service
invariant-loop-service l =
    l.keys.items
    ≡ flat_map (left_near l.objects l.slices)
    (map (λ k. k.now) (take l.service-index l.services))
