use Rattle.std.proofs.lemmas.Result.{on_err_weaker}
use Rattle.kp_report.proofs.Pieces.{front_on}
use Rattle.kp_report.proofs.key.push_endpoint_key.Goals as goal

pub returns-clause-front : goal.returns-clause-front
returns-clause-front c = on_err_weaker c.push_endpoint.result
    (λ h. front_on _ _ _ _ c.in_ok-push_port.ensures.added (front_on _ _ _ _ c.in_ok-push.ensures.added h))
    c.push_endpoint.ensures.front
