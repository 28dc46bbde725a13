use Rattle.std.proofs.Common.{◌≡◌, take, map}
use Rattle.std.specs.List.{flat_map}
use Rattle.kp_changes.specs.Beside.{names_in}
use Rattle.kp_changes.proofs.crowd.names_at.Given as goal

-- the names of the ports of the Services so far
abbrev pub invariant-loop-service : goal.invariant-loop-service
invariant-loop-service l =
    l.names.items
    ≡ flat_map (names_in l.door) (map (λ s. s.now) (take l.service-index l.service-items))
