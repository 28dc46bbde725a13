use Rattle.std.proofs.Common.{◌≡◌, take, drop, length, vec_len}
use Rattle.kp_chains.specs.Rows.{rows_of_texts}
use Rattle.kp_chains.specs.Tables.{with_rows}
use Rattle.kp_chains.proofs.table.put_rows.Given as goal

-- the table has the rows that were taken off the end
abbrev pub invariant-loop-row : goal.invariant-loop-row
invariant-loop-row l = record {
  table : l.table ≡ with_rows (rows_of_texts (drop (length l.rows.items) l.fn.rows.items)) l.fn.table;
  left : l.rows.items ≡ take (length l.rows.items) l.fn.rows.items;
}

abbrev pub decreases-loop-row : goal.decreases-loop-row
decreases-loop-row l = vec_len l.rows
