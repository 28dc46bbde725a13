-- The ready endpoints of this node so far were found.
use Rattle.std.proofs.Common.{◌≡◌, take, map}
use Rattle.std.specs.List.{filter}
use Rattle.kp_object_defs.specs.Lists.{is_ready}
use Rattle.kp_category.proofs.policies.ready_here.Given as goal

abbrev pub invariant-loop-endpoint : goal.invariant-loop-endpoint
invariant-loop-endpoint l =
    l.found.items ≡ map (λ c. c.endpoint) (filter is_ready (filter (λ c. c.local) (take l.endpoint-index l.endpoints)))
