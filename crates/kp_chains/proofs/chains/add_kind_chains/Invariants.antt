use Rattle.std.proofs.Common.{◌≡◌, ◌++◌, map, take}
use Rattle.kp_choice_defs.specs.Settings.{setting_of}
use Rattle.kp_chains.specs.Named.{kind_row}
use Rattle.kp_chains.specs.Rows.{rows_of_texts}
use Rattle.kp_chains.proofs.chains.add_kind_chains.Given as goal

-- the chains of the kinds so far were added
abbrev pub invariant-loop-kind : goal.invariant-loop-kind
invariant-loop-kind l =
    rows_of_texts l.rows.items ≡ rows_of_texts l.fn.rows.items
    ++ map (kind_row (setting_of l.family l.config) l.info l.cluster l.local)
    (take l.kind-index l.kind-items)
