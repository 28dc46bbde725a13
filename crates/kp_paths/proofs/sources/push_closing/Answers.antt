use Rattle.std.proofs.Common.{◌≡◌, ◌∙◌, ◌++◌, ap, option_map, string_bytes}
use Rattle.std.proofs.lemmas.Result.{on_err_weaker, on_ok_weaker}
use Rattle.kp_types.specs.Setting.{config_for}
use Rattle.kp_text_defs.specs.Printed.{verdict_text}
use Rattle.kp_decide.specs.Shown.{shown_refusal}
use Rattle.kp_report.proofs.Pieces.{front_on, three_added}
use Rattle.kp_paths.specs.SourceWords.{closed_text, head_text, verdict_if}
use Rattle.kp_paths.proofs.SourceLines.{closing_line}
use Rattle.kp_paths.proofs.sources.push_closing.Goals as goal

pub returns-clause-text : goal.returns-clause-text
returns-clause-text c =
    let config = config_for c.args.family c.args.config.now in
    let v = verdict_if (option_map shown_refusal c.args.refusal) in
    let told : string_bytes c.push.new.text ≡ string_bytes c.push_head.new.text ++ verdict_text v =
    c.in_ok-push.ensures.added ∙ ap (λ w. string_bytes c.push_head.new.text ++ w) c.verdict_word.ensures in
    on_ok_weaker c.push_closed.result
    (λ h. three_added _ _ _ _ (head_text c.args.number config c.args.restricted.now c.args.address.now)
    (verdict_text v) (closed_text c.args.door.now c.args.address.now)
    c.in_ok-push_head.ensures.added told h
    ∙ ap (λ l. string_bytes c.args.text.now ++ l)
    (closing_line c.args.number config c.args.restricted.now c.args.address.now v c.args.door.now))
    c.push_closed.ensures.added

pub returns-clause-front : goal.returns-clause-front
returns-clause-front c = on_err_weaker c.push_closed.result
    (λ h. front_on _ _ _ _ c.in_ok-push_head.ensures.added (front_on _ _ _ _ c.in_ok-push.ensures.added h))
    c.push_closed.ensures.front
