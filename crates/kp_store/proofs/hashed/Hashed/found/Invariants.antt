-- The objects of the keys so far were found.
use Rattle.std.proofs.Common.{◌≡◌, map, take}
use Rattle.std.specs.List.{filter_map}
use Rattle.std.specs.FinMap as finite
use Rattle.kp_store.proofs.hashed.Hashed.found.Given as goal

abbrev pub invariant-loop-key : goal.invariant-loop-key
invariant-loop-key g l =
    map (λ x. x.now) l.found.items
    ≡ filter_map (finite.get l.self) (map (λ k. k.now) (take l.key-index l.key-items))
