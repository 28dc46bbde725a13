use Rattle.std.proofs.Common.{◌≡◌, take}
use Rattle.std.specs.List.{flat_map}
use Rattle.kp_chains.specs.Rows.{rows_of_texts}
use Rattle.kp_chains.specs.Tables.{fixed_rows}
use Rattle.kp_chains.proofs.fixed.fixed_rows.Given as goal

-- the rows of the families so far
abbrev pub invariant-loop-family : goal.invariant-loop-family
invariant-loop-family l =
    rows_of_texts l.rows.items ≡ flat_map fixed_rows (take l.family-index l.families)
