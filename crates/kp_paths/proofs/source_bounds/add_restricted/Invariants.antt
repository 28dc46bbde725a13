use Rattle.std.proofs.Common.{◌≡◌, ◌++◌, flat_map, take}
use Rattle.kp_paths.specs.SourceWords.{bounds_of_range}
use Rattle.kp_paths.proofs.source_bounds.add_restricted.Given as goal

-- those of the load balancers so far are added
abbrev pub invariant-loop-one : goal.invariant-loop-one
invariant-loop-one l =
    l.bounds.items ≡ l.initial.bounds.items ++ flat_map bounds_of_range
    (flat_map (λ r. r.ranges) (take l.one-index l.restricted))
