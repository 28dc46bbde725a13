-- The candidates of the endpoints so far were added.
use Rattle.std.proofs.Common.{◌≡◌, ◌++◌, take}
use Rattle.std.specs.List.{filter_map}
use Rattle.kp_object_defs.specs.Entries.{candidate_of}
use Rattle.kp_category.proofs.entries.add_endpoints.Given as goal

abbrev pub invariant-loop-endpoint : goal.invariant-loop-endpoint
invariant-loop-endpoint l =
    l.found.items ≡ l.initial.found.items ++ filter_map (candidate_of l.family l.node l.number) (take l.endpoint-index l.endpoints)
