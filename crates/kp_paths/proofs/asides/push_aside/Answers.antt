use Rattle.std.proofs.Common.{codes, string_bytes}
use Rattle.std.proofs.lemmas.Result.{on_err_weaker, on_ok_weaker}
use Rattle.kp_choice_defs.specs.AddressText.{endpoint_text}
use Rattle.kp_report.proofs.Pieces.{front_on}
use Rattle.kp_paths.specs.Beside.{aside_head}
use Rattle.kp_paths.proofs.Added.{five_added}
use Rattle.kp_paths.proofs.asides.push_aside.Goals as goal

pub returns-clause-added : goal.returns-clause-added
returns-clause-added c = on_ok_weaker c.push-3.result
    (λ is. five_added (string_bytes c.args.text.now) (string_bytes c.push_head.new.text)
    (string_bytes c.push_endpoint.new.text) (string_bytes c.push.new.text)
    (string_bytes c.push-2.new.text) (string_bytes c.push-3.new.text)
    (aside_head c.args.number c.args.port.now) (endpoint_text c.args.endpoint.now) (codes " ")
    c.args.why.now (codes "\n") c.in_ok-push_head.ensures.added c.in_ok-push_endpoint.ensures.added
    c.in_ok-push.ensures.added c.in_ok-push-2.ensures.added is)
    c.push-3.ensures.added

pub returns-clause-front : goal.returns-clause-front
returns-clause-front c = on_err_weaker c.push-3.result
    (λ h. front_on _ _ _ _ c.in_ok-push_head.ensures.added
    (front_on _ _ _ _ c.in_ok-push_endpoint.ensures.added
    (front_on _ _ _ _ c.in_ok-push.ensures.added
    (front_on _ _ _ _ c.in_ok-push-2.ensures.added h))))
    c.push-3.ensures.front
