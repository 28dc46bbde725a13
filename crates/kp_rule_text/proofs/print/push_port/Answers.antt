use Rattle.std.proofs.Common.{◌++◌, string_bytes, decimal, ◌∙◌}
use Rattle.std.proofs.lemmas.Result.{on_ok_weaker}
use Rattle.kp_rule_text.proofs.Joined.{port_added}
use Rattle.kp_rule_text.proofs.print.push_port.Goals as goal

pub returns-clause-added : goal.returns-clause-added
returns-clause-added c =
    on_ok_weaker c.push.result
    (port_added _ _ _ c.args.proto c.args.port
    (c.in_ok-push_labelled.ensures.added
    ∙ (λ i. string_bytes c.args.line.now ++ (c.port_words.ensures i ++ decimal (c.get.ensures.number i)))))
    c.push.ensures.added
