-- The Services of the keys so far were found.
use Rattle.std.proofs.Common.{◌≡◌, map, take}
use Rattle.std.specs.List.{filter_map}
use Rattle.std.specs.FinMap as finite
use Rattle.kp_controller.proofs.services.services_at.Given as goal

abbrev pub invariant-loop-key : goal.invariant-loop-key
invariant-loop-key l =
    map (λ s. s.now) l.services.items
    ≡ filter_map (finite.get l.objects.services) (map (λ k. k.now) (take l.key-index l.keys))
