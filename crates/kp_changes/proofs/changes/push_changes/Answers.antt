use Rattle.std.proofs.Common.{◌++◌, ap, ◌∙◌, string_bytes}
use Rattle.std.proofs.lemmas.Result.{on_ok_weaker}
use Rattle.kp_changes.specs.Lines.{dirty_text}
use Rattle.kp_changes.proofs.AllLines.{all_told}
use Rattle.kp_changes.proofs.changes.push_changes.Goals as goal

pub returns-clause-added : goal.returns-clause-added
returns-clause-added c before own own_after is_four is_six =
    let config = c.args.config.now in
    let o = c.args.objects.now in
    on_ok_weaker c.push_dirty.result
    (λ added. added
    ∙ (λ i. string_bytes c.args.text.now
    ++ dirty_text (c.new-now.ensures i).synced.config (c.new-now.ensures i).synced.objects c.args.four.now
    c.args.six.now)
    ∙ ap (λ l. string_bytes c.args.text.now ++ l)
    ((λ i. dirty_text config o (is_four i) (is_six i))
    ∙ all_told c.infos_by_name.ensures config before o own own_after))
    c.push_dirty.ensures.added
