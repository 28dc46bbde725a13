-- The endpoints of this node so far that still serve were found.
use Rattle.std.proofs.Common.{◌≡◌, take, map}
use Rattle.std.specs.List.{filter}
use Rattle.kp_object_defs.specs.Lists.{is_serving_terminating}
use Rattle.kp_category.proofs.policies.serving_here.Given as goal

abbrev pub invariant-loop-endpoint : goal.invariant-loop-endpoint
invariant-loop-endpoint l =
    l.found.items ≡ map (λ c. c.endpoint) (filter is_serving_terminating (filter (λ c. c.local) (take l.endpoint-index l.endpoints)))
