use Rattle.std.proofs.Common.{ap, ◌∙◌}
use Rattle.kp_chains.specs.Rows.{rows_of_texts}
use Rattle.kp_chains.specs.Tables.{with_rows}
use Rattle.kp_chains.proofs.Popped.{chains_alone}
use Rattle.kp_chains.proofs.table.table_of.Goals as goal

pub returns : goal.returns
returns c =
    let rows = rows_of_texts c.args.rows.items in
    c.in_ok-put_rows.ensures.ok
    ∙ ap (with_rows rows) c.in_ok-table.ensures
    ∙ ap (λ m. record { chains = m; syncs = 0 }) (chains_alone rows)
