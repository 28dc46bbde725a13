use Rattle.std.proofs.Common.{◌≡◌, ◌++◌, take}
use Rattle.std.specs.List.{filter, flat_map}
use Rattle.kp_table_defs.specs.Rebuild.{is_of_kind}
use Rattle.kp_full_table.proofs.keys.add_by_kind.Given as goal

-- the keys of the kinds so far were added
abbrev pub invariant-loop-kind : goal.invariant-loop-kind
invariant-loop-kind l =
    l.keys.items ≡ l.fn.keys.items
    ++ flat_map (λ kind. filter (is_of_kind kind) l.own) (take l.kind-index l.kinds)
