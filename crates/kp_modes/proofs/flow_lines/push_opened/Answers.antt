use Rattle.std.proofs.lemmas.Result.{on_err_weaker}
use Rattle.kp_report.proofs.Pieces.{front_on}
use Rattle.kp_modes.proofs.flow_lines.push_opened.Goals as goal

pub returns-in_ok-push_to-in-To-clause-front : goal.returns-in_ok-push_to-in-To-clause-front
returns-in_ok-push_to-in-To-clause-front c =
    on_err_weaker c.push.result
    (λ h. front_on _ _ _ _ c.in_ok-push_head-in-To.ensures.added
    (front_on _ _ _ _ c.in_ok-push_to-in-To.ensures.added h))
    c.push.ensures.front
