use Rattle.std.proofs.Common.{◌++◌, codes, string_bytes, ap, ◌∙◌}
use Rattle.std.specs.List.{flat_map}
use Rattle.std.proofs.lemmas.Result.{on_ok_weaker}
use Rattle.kp_restore_text.specs.Printed.{ended, chain_text, rules_at}
use Rattle.kp_restore_text.proofs.Sections.{section_added}
use Rattle.kp_restore_text.proofs.print.push_section.Goals as goal

pub returns : goal.returns
returns c =
    on_ok_weaker c.push_line-2.result
    (section_added c.args.table.now.chains c.args.which c.in_ok-built_in.built_in c.in_ok-others.others _ _ _ _ _ _ _ c.in_ok-built_in.ensures c.in_ok-others.ensures
    (c.in_ok-push_line.ensures ∙ ap (λ l. string_bytes c.args.text.now ++ ended l) c.table_line.ensures)
    (c.in_ok-push_chains.ensures ∙ ap (λ ps. string_bytes c.push_line.new.text ++ flat_map (chain_text (codes " ACCEPT [0:0]")) ps) c.as_slice.ensures)
    (c.in_ok-push_chains-2.ensures ∙ ap (λ ps. string_bytes c.push_chains.new.text ++ flat_map (chain_text (codes " - [0:0]")) ps) c.as_slice-2.ensures)
    (c.in_ok-push_rules.ensures ∙ ap (λ ps. string_bytes c.push_chains-2.new.text ++ flat_map (rules_at c.args.table.now.chains) ps) c.as_slice-3.ensures)
    (c.in_ok-push_rules-2.ensures ∙ ap (λ ps. string_bytes c.push_rules.new.text ++ flat_map (rules_at c.args.table.now.chains) ps) c.as_slice-4.ensures))
    c.push_line-2.ensures
