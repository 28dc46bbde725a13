use Rattle.std.proofs.lemmas.Result.{on_err_weaker}
use Rattle.kp_report.proofs.Pieces.{front_on}
use Rattle.kp_paths.proofs.asides.push_head.Goals as goal

pub returns-clause-front : goal.returns-clause-front
returns-clause-front c = on_err_weaker c.push-2.result
    (λ h. front_on _ _ _ _ c.in_ok-push_labelled.ensures.added
    (front_on _ _ _ _ c.in_ok-push.ensures.added
    (front_on _ _ _ _ c.in_ok-push_port.ensures.added h)))
    c.push-2.ensures.front
