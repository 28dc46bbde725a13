use Rattle.std.proofs.Common.{take, refl, ap, ◌∙◌, ◌∷◌, ◌++◌, []}
use Rattle.kp_types.specs.Rules.{rule_of}
use Rattle.kp_types.specs.declared.rule.Target.TheVariants.{Jump}
use Rattle.kp_table_defs.specs.Layout.{nat_rows_with, own_addresses, kube_node_ports}
use Rattle.kp_chains.specs.Fixed.{nat_hooks, nat_marks}
use Rattle.kp_chains.specs.Rows.{rows_of_texts}
use Rattle.kp_chains.proofs.RowLemmas.{next_row, more_rows}
use Rattle.kp_chains.proofs.nat.fixed_of_nat.Goals as goal

pub returns : goal.returns
returns c =
    let family = c.args.family in
    let rows = nat_rows_with family c.args.node_ports c.args.services in
    let at = c.nat_of-table.ensures in
    next_row _ _ at _ _ [] (take 7 rows) _ _ _ c.in_ok-add_row-2.ensures
    (c.in_ok-services.ensures
    ∙ ap (λ s. s ++ rule_of (own_addresses family) (Jump kube_node_ports) ∷ []) c.into_vec.ensures)
    (next_row _ _ at _ _ [] (take 6 rows) _ _ _ c.in_ok-add_row.ensures refl
    (more_rows _ _ [] (nat_hooks family) (nat_marks family) c.in_ok-marks_of_nat.ensures
    (c.in_ok-hooks_of_nat.ensures
    ∙ ap (λ first. rows_of_texts first ++ nat_hooks family) c.new-rows.ensures.items)))
