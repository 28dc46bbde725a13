use Rattle.std.proofs.Common.{map, ap, ◌∙◌, ◌++◌}
use Rattle.kp_choice_defs.specs.Settings.{setting_of}
use Rattle.kp_table_defs.specs.Keys.{needed_kinds}
use Rattle.kp_chains.specs.Named.{kind_row, not_among, endpoint_row}
use Rattle.kp_chains.specs.Rows.{rows_of_texts}
use Rattle.kp_chains.proofs.PortRows.{named, port_rows_are}
use Rattle.kp_chains.proofs.chains.all_chains.Goals as goal

pub returns : goal.returns
returns c =
    let family = c.args.family in
    let config = c.args.config.now in
    let info = c.args.info.now in
    let before = rows_of_texts c.add_kind_chains.new.rows.items in
    let then = rows_of_texts c.add_endpoint_chains.new.rows.items in
    port_rows_are family config info c.in_ok-cluster.cluster.items c.in_ok-local.local.items _ _ _
    (c.in_ok-cluster.ensures ∙ ap (named family config info) c.as_slice.ensures)
    (c.in_ok-local.ensures ∙ ap (named family config info) c.as_slice-2.ensures)
    (c.in_ok-add_kind_chains.ensures
    ∙ (λ k. rows_of_texts (c.new-rows.ensures.items k)
    ++ map (kind_row (setting_of family config) info (c.deref.ensures.value k) (c.deref-2.ensures.value k))
    (needed_kinds info)))
    (c.in_ok-add_endpoint_chains.ensures ∙ ap (λ es. before ++ map (endpoint_row family info) es) c.deref-3.ensures.value)
    (c.in_ok-add_other_chains.ensures
    ∙ ap (λ es. then ++ map (endpoint_row family info) (not_among info.lists.cluster es)) c.deref-4.ensures.value)
