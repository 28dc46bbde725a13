use Rattle.std.proofs.Common.{◌≡◌, ◌++◌, take}
use Rattle.std.specs.List.{filter}
use Rattle.kp_table_defs.specs.Rebuild.{is_of_kind}
use Rattle.kp_full_table.proofs.keys.add_of_kind.Given as goal

-- those of the keys so far that are of the kind were added
abbrev pub invariant-loop-key : goal.invariant-loop-key
invariant-loop-key l =
    l.keys.items ≡ l.fn.keys.items ++ filter (is_of_kind l.kind) (take l.key-index l.own)
