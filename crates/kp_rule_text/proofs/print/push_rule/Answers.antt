use Rattle.std.proofs.Common.{◌++◌, string_bytes, ap, ◌∙◌}
use Rattle.std.proofs.lemmas.Result.{on_ok_weaker, on_err_weaker}
use Rattle.std.specs.List.{flat_map}
use Rattle.kp_rule_text.specs.Lines.{match_text}
use Rattle.kp_rule_text.proofs.Joined.{line_added, line_front}
use Rattle.kp_rule_text.proofs.print.push_rule.Goals as goal

pub returns-clause-added : goal.returns-clause-added
returns-clause-added c =
    on_ok_weaker c.push_target.result
    (line_added _ _ _ _ _ _ c.args.chain.now c.args.rule.now c.in_ok-push.ensures.added
    (c.in_ok-push-2.ensures.added ∙ ap (λ l. string_bytes c.push.new.text ++ l) c.as_str.ensures.text) c.in_ok-push-3.ensures.added
    (c.in_ok-push_matches.ensures.added ∙ ap (λ ms. string_bytes c.push-3.new.text ++ flat_map match_text ms) c.as_slice.ensures.value))
    c.push_target.ensures.added

pub returns-clause-front : goal.returns-clause-front
returns-clause-front c =
    on_err_weaker c.push_target.result
    (line_front _ _ _ _ _ _ _ _ _ _ c.in_ok-push.ensures.added c.in_ok-push-2.ensures.added c.in_ok-push-3.ensures.added
    c.in_ok-push_matches.ensures.added)
    c.push_target.ensures.front
