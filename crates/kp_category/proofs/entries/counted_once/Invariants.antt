-- The candidates so far were counted, each address and port once.
use Rattle.std.proofs.Common.{◌≡◌, ◌++◌, map, reverse}
use Rattle.std.specs.List.{filter}
use Rattle.kp_base.specs.Keys.{endpoint_cmp}
use Rattle.kp_object_defs.specs.Order.{in_order}
use Rattle.kp_category.proofs.entries.counted_once.Given as goal

abbrev pub invariant-loop-candidate : goal.invariant-loop-candidate
invariant-loop-candidate l =
    l.counted.entries
    ≡ in_order endpoint_cmp (map (λ c. (c.endpoint, c)) (reverse (filter (λ c. c.local) l.yielded) ++ l.yielded))
