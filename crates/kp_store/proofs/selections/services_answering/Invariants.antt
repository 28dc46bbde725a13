-- The Services so far that answer were found.
use Rattle.std.proofs.Common.{◌≡◌, map, filter, take}
use Rattle.kp_store.specs.Destinations.{answers}
use Rattle.kp_store.proofs.selections.services_answering.Given as goal

abbrev pub invariant-loop-service : goal.invariant-loop-service
invariant-loop-service l =
    map (λ s. s.now) l.answering.items
    ≡ filter (answers l.proto l.address l.number) (map (λ s. s.now) (take l.service-index l.services))
