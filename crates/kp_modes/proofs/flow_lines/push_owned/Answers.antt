use Rattle.std.proofs.lemmas.Result.{on_err_weaker}
use Rattle.kp_report.proofs.Pieces.{front_on}
use Rattle.kp_modes.proofs.flow_lines.push_owned.Goals as goal

pub returns-clause-front : goal.returns-clause-front
returns-clause-front c =
    on_err_weaker c.push_no_trail.result
    (λ h. front_on _ _ _ _ c.in_ok-push_head.ensures.added
    (front_on _ _ _ _ c.in_ok-push_words.ensures.added
    (front_on _ _ _ _ c.in_ok-push.ensures.added h)))
    c.push_no_trail.ensures.front
