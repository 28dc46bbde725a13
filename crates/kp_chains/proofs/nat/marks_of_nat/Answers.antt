use Rattle.kp_chains.proofs.RowLemmas.{first_row, next_row}
use Rattle.kp_chains.proofs.nat.marks_of_nat.Goals as goal

pub returns : goal.returns
returns c =
    let at = c.nat_of-table.ensures in
    next_row _ _ at _ _ _ _ _ _ _ c.in_ok-add_row-2.ensures c.in_ok-rules.ensures
    (first_row _ _ at _ _ _ _ _ c.in_ok-add_row.ensures c.in_ok-mark.ensures)
