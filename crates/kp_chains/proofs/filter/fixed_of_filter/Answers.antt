use Rattle.std.proofs.Common.{[], ◌++◌, ◌∙◌, ap, refl, take}
use Rattle.kp_table_defs.specs.Layout.{filter_rows_with}
use Rattle.kp_chains.specs.Fixed.{filter_hooks}
use Rattle.kp_chains.specs.Rows.{rows_of_texts}
use Rattle.kp_chains.proofs.RowLemmas.{next_row}
use Rattle.kp_chains.proofs.filter.fixed_of_filter.Goals as goal

pub returns : goal.returns
returns c =
    let family = c.args.family in
    let rows = filter_rows_with family c.args.firewall c.args.external c.args.services in
    let at = c.filter_of-table.ensures in
    next_row _ _ at _ _ [] (take 6 rows) _ _ _ c.in_ok-add_row-4.ensures refl
    (next_row _ _ at _ _ [] (take 5 rows) _ _ _ c.in_ok-add_row-3.ensures refl
    (next_row _ _ at _ _ [] (take 4 rows) _ _ _ c.in_ok-add_row-2.ensures refl
    (next_row _ _ at _ _ [] (filter_hooks family) _ _ _ c.in_ok-add_row.ensures
    c.in_ok-forward.ensures
    (c.in_ok-hooks_of_filter.ensures
    ∙ ap (λ first. rows_of_texts first ++ filter_hooks family) c.new-rows.ensures.items))))
