use Rattle.std.proofs.Common.{◌≡◌, ◌++◌, map, take}
use Rattle.std.specs.List.{flat_map}
use Rattle.kp_table_defs.specs.Rebuild.{endpoint_keys}
use Rattle.kp_full_table.proofs.keys.add_in_order.Given as goal

-- the keys of the ports so far were added
abbrev pub invariant-loop-info : goal.invariant-loop-info
invariant-loop-info l =
    l.keys.items
    ≡ l.fn.keys.items ++ flat_map endpoint_keys (map (λ i. i.now) (take l.info-index l.infos))
