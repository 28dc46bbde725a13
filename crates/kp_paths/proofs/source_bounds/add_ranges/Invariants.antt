use Rattle.std.proofs.Common.{◌≡◌, ◌++◌, flat_map, take}
use Rattle.kp_paths.specs.SourceWords.{bounds_of_range}
use Rattle.kp_paths.proofs.source_bounds.add_ranges.Given as goal

-- those of the ranges so far are added
abbrev pub invariant-loop-range : goal.invariant-loop-range
invariant-loop-range l =
    l.bounds.items
    ≡ l.initial.bounds.items ++ flat_map bounds_of_range (take l.range-index l.ranges)
