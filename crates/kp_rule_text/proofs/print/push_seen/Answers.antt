use Rattle.std.proofs.Common.{◌++◌, string_bytes, ap, ◌∙◌}
use Rattle.std.proofs.lemmas.Result.{on_ok_weaker}
use Rattle.kp_rule_text.proofs.Joined.{seen_added}
use Rattle.kp_rule_text.proofs.print.push_seen.Goals as goal

pub returns-clause-added : goal.returns-clause-added
returns-clause-added c =
    on_ok_weaker c.push-3.result
    (seen_added _ _ _ _ _ c.args.list.now c.args.seconds c.in_ok-push.ensures.added
    (c.in_ok-push-2.ensures.added ∙ ap (λ l. string_bytes c.push.new.text ++ l) c.as_str.ensures.text)
    c.in_ok-push_labelled.ensures.added)
    c.push-3.ensures.added
