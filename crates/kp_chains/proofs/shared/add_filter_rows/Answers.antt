use Rattle.std.proofs.Common.{refl, [], ◌∷◌}
use Rattle.kp_types.specs.Places.{filter_of}
use Rattle.kp_table_defs.specs.Layout.{row, kube_proxy_firewall, kube_external_services}
use Rattle.kp_chains.specs.Rows.{rows_of_texts}
use Rattle.kp_chains.proofs.RowLemmas.{first_row, next_row}
use Rattle.kp_chains.proofs.shared.add_filter_rows.Goals as goal

pub returns : goal.returns
returns c =
    let r = rows_of_texts c.args.rows.now.items in
    let firewall = row (filter_of c.args.family) kube_proxy_firewall c.args.firewall in
    let external = row (filter_of c.args.family) kube_external_services c.args.external in
    let at = c.filter_of-table.ensures in
    next_row _ _ at _ _ r (firewall ∷ external ∷ []) _ _ _ c.in_ok-add_row-3.ensures refl
    (next_row _ _ at _ _ r (firewall ∷ []) _ _ _ c.in_ok-add_row-2.ensures refl
    (first_row _ _ at _ _ _ _ _ c.in_ok-add_row.ensures refl))
