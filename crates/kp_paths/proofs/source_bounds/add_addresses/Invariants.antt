use Rattle.std.proofs.Common.{◌≡◌, ◌++◌, filter, flat_map, map, take}
use Rattle.kp_base.specs.Net.{same_family, single_range}
use Rattle.kp_paths.specs.SourceWords.{bounds_of_range}
use Rattle.kp_paths.proofs.source_bounds.add_addresses.Given as goal

-- those of the addresses so far are added
abbrev pub invariant-loop-address : goal.invariant-loop-address
invariant-loop-address l =
    l.bounds.items ≡ l.initial.bounds.items ++ flat_map bounds_of_range
    (map single_range (filter (λ a. same_family a.family l.family) (take l.address-index l.addresses)))
