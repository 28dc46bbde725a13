use Rattle.std.proofs.Common.{◌++◌, ◌==◌, ap, sym, ◌∙◌, string_bytes}
use Rattle.std.proofs.lemmas.Result.{on_err_weaker, on_ok_weaker}
use Rattle.kp_report.proofs.Pieces.{front_on, two_added}
use Rattle.kp_change_defs.specs.ValueText.{now_text, unless}
use Rattle.kp_changes.specs.Counted.{inside_count, inside_counts}
use Rattle.kp_changes.proofs.value_text.push_inside_counts.Goals as goal

pub returns-clause-added : goal.returns-clause-added
returns-clause-added c =
    let before = c.args.before in
    let after = c.args.after in
    on_ok_weaker c.push_count_unless.result
    (λ h. two_added _ _ _ (inside_count before)
    (unless (before == after) (now_text (inside_count after)))
    c.in_ok-push_inside_count.ensures.added h
    ∙ ap (λ comes. string_bytes c.args.text.now ++ inside_counts comes before after)
    (sym c.if-comes.false))
    c.push_count_unless.ensures.added

pub returns-clause-front : goal.returns-clause-front
returns-clause-front c =
    on_err_weaker c.push_count_unless.result
    (front_on _ _ _ _ c.in_ok-push_inside_count.ensures.added)
    c.push_count_unless.ensures.front
