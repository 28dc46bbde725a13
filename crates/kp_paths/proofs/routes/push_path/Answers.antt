use Rattle.std.proofs.lemmas.Result.{on_err_weaker}
use Rattle.kp_report.proofs.Pieces.{front_on}
use Rattle.kp_paths.proofs.routes.push_path.Goals as goal

pub returns-clause-front : goal.returns-clause-front
returns-clause-front c = on_err_weaker c.push.result
    (λ h. front_on _ _ _ _ c.in_ok-push_stand.ensures.added
    (front_on _ _ _ _ c.in_ok-push_decided.ensures.added h))
    c.push.ensures.front
