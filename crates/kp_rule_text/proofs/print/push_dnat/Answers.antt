use Rattle.std.proofs.Common.{◌++◌, string_bytes, codes, ap, ◌∙◌, append_assoc}
use Rattle.std.proofs.lemmas.Result.{on_ok_weaker}
use Rattle.kp_choice_defs.specs.AddressText.{endpoint_text}
use Rattle.kp_rule_text.proofs.print.push_dnat.Goals as goal

pub returns-clause-added : goal.returns-clause-added
returns-clause-added c =
    on_ok_weaker c.push_endpoint.result
    (λ e. e ∙ ap (λ s. s ++ endpoint_text c.args.endpoint.now) c.in_ok-push_jump.ensures.added
    ∙ append_assoc (string_bytes c.args.line.now) (codes "-j DNAT --to-destination ") (endpoint_text c.args.endpoint.now))
    c.push_endpoint.ensures.added
