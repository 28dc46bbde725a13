use Rattle.std.proofs.Common.{◌++◌, string_bytes, sym, ap, ◌∙◌}
use Rattle.std.proofs.lemmas.Result.{on_ok_weaker}
use Rattle.kp_paths.proofs.AllLines.{with_tables}
use Rattle.kp_paths.proofs.push.push_paths.Goals as goal

pub returns-clause-text : goal.returns-clause-text
returns-clause-text c = on_ok_weaker c.push_lines.result
    (λ is. is
    ∙ ap (λ words. string_bytes c.args.text.now ++ words)
    (with_tables c.args.config.now c.args.objects.now c.args.number c.args.packet.now
    c.args.lists.now c.family-family.result c.family-family.ensures
    (sym c.if-not-has_tables_of.ensures)))
    c.push_lines.ensures.text
