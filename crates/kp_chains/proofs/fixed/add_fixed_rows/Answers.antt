use Rattle.std.proofs.Common.{[], ◌++◌, ◌∙◌}
use Rattle.kp_table_defs.specs.Layout.{nat_rows_with, filter_rows_with}
use Rattle.kp_chains.specs.Rows.{rows_of_texts}
use Rattle.kp_chains.proofs.RowLemmas.{more_rows}
use Rattle.kp_chains.proofs.fixed.add_fixed_rows.Goals as goal

pub returns : goal.returns
returns c =
    let family = c.args.family in
    let before = rows_of_texts c.args.rows.now.items in
    let then = rows_of_texts c.nat_rows.new.rows.items in
    more_rows _ _ before (nat_rows_with family [] []) (filter_rows_with family [] [] [])
    (c.in_ok-filter_rows.ensures.rows
    ∙ (λ k. then ++ filter_rows_with family (c.new-empty.ensures k) (c.new-3.ensures k)
    (c.new-4.ensures k)))
    (c.in_ok-nat_rows.ensures.rows
    ∙ (λ k. before ++ nat_rows_with family (c.new.ensures k) (c.new-2.ensures k)))
