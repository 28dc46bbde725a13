use Rattle.std.proofs.Common.{take}
use Rattle.kp_chains.specs.Fixed.{filter_hooks}
use Rattle.kp_chains.specs.Rows.{rows_of_texts}
use Rattle.kp_chains.proofs.RowLemmas.{first_row, next_row}
use Rattle.kp_chains.proofs.filter.hooks_of_filter.Goals as goal

pub returns : goal.returns
returns c =
    let hooks = filter_hooks c.args.family in
    let r = rows_of_texts c.args.rows.now.items in
    let at = c.filter_of-table.ensures in
    next_row _ _ at _ _ r (take 2 hooks) _ _ _ c.in_ok-add_row-3.ensures c.in_ok-output.ensures
    (next_row _ _ at _ _ r (take 1 hooks) _ _ _ c.in_ok-add_row-2.ensures c.in_ok-forward.ensures
    (first_row _ _ at _ _ _ _ _ c.in_ok-add_row.ensures c.in_ok-input.ensures))
