use Rattle.std.proofs.Common.{[], ◌∷◌, ◌++◌, filter, ap, ◌∙◌}
use Rattle.kp_types.specs.declared.chain.TableName.{TableName}
use Rattle.kp_types.specs.declared.rule.ChainText.{ChainText}
use Rattle.kp_table_defs.specs.Layout as layout
use Rattle.kp_blocks.specs.Joined.{has_rules, text_of}
use Rattle.kp_writer.proofs.EitherWay.{texts_added}
use Rattle.kp_writer.proofs.block.add_filter.Goals as goal

pub returns : goal.returns
returns c =
    let firewall : TableName → ChainText = λ t.
    text_of (layout.row t layout.kube_proxy_firewall c.args.firewall) in
    let external : TableName → ChainText = λ t.
    text_of (layout.row t layout.kube_external_services c.args.external) in
    let refusals : TableName → ChainText = λ t.
    text_of (layout.row t layout.kube_services c.args.refusals) in
    let t = c.filter_of-table.result in
    texts_added c.args.block.now.items c.add-2.new.block.items c.add-3.new.block.items
    (firewall t ∷ external t ∷ []) (refusals t ∷ [])
    (texts_added c.args.block.now.items c.add.new.block.items c.add-2.new.block.items
    (firewall t ∷ []) (external t ∷ []) c.in_ok-add.ensures c.in_ok-add-2.ensures)
    c.in_ok-add-3.ensures
    ∙ ap (λ u. c.args.block.now.items
    ++ filter has_rules (firewall u ∷ external u ∷ refusals u ∷ [])) c.filter_of-table.ensures
