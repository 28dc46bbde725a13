-- The ready endpoints so far that hint the zone were found.
use Rattle.std.proofs.Common.{◌≡◌, take, map}
use Rattle.std.specs.List.{filter}
use Rattle.kp_object_defs.specs.Lists.{is_ready, hints_zone}
use Rattle.kp_category.proofs.topology.ready_in_zone.Given as goal

abbrev pub invariant-loop-endpoint : goal.invariant-loop-endpoint
invariant-loop-endpoint l =
    l.found.items ≡ map (λ c. c.endpoint) (filter (hints_zone l.zone) (filter is_ready (take l.endpoint-index l.endpoints)))
