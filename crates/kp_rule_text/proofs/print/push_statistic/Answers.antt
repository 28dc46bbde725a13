use Rattle.std.proofs.Common.{◌++◌, string_bytes, ap, ◌∙◌}
use Rattle.std.proofs.lemmas.Result.{on_ok_weaker}
use Rattle.kp_rule_text.proofs.Joined.{statistic_added}
use Rattle.kp_rule_text.proofs.print.push_statistic.Goals as goal

pub returns-clause-added : goal.returns-clause-added
returns-clause-added c =
    on_ok_weaker c.push-3.result
    (statistic_added _ _ _ _ c.args.p c.in_ok-push.ensures.added
    (c.in_ok-push-2.ensures.added ∙ ap (λ l. string_bytes c.push.new.text ++ l) (c.as_str.ensures.value ∙ c.probability_text.ensures)))
    c.push-3.ensures.added
