use Rattle.std.proofs.lemmas.Result.{on_err_weaker}
use Rattle.kp_report.proofs.Pieces.{front_on}
use Rattle.kp_paths.proofs.words.push_sent_to.Goals as goal

pub returns-clause-front : goal.returns-clause-front
returns-clause-front c = on_err_weaker c.push_chosen.result
    (λ h. front_on _ _ _ _ c.in_ok-push.ensures.added
    (front_on _ _ _ _ c.in_ok-push_endpoint.ensures.added
    (front_on _ _ _ _ c.in_ok-push-2.ensures.added h)))
    c.push_chosen.ensures.front
