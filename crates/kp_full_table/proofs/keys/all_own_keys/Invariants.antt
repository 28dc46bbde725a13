use Rattle.std.proofs.Common.{◌≡◌, map, take}
use Rattle.std.specs.List.{flat_map}
use Rattle.kp_table_defs.specs.Keys.{own_keys}
use Rattle.kp_full_table.proofs.keys.all_own_keys.Given as goal

-- the keys of the ports so far
abbrev pub invariant-loop-info : goal.invariant-loop-info
invariant-loop-info l =
    l.own.items ≡ flat_map own_keys (map (λ i. i.now) (take l.info-index l.infos))
