use Rattle.std.proofs.lemmas.Result.{on_err_weaker}
use Rattle.kp_report.proofs.Pieces.{front_on}
use Rattle.kp_changes.proofs.value_text.push_inside_lists.Goals as goal

pub returns-clause-front : goal.returns-clause-front
returns-clause-front c =
    on_err_weaker c.push_beyond-2.result
    (λ h. front_on _ _ _ _ c.in_ok-push.ensures.added
    (front_on _ _ _ _ c.in_ok-push_inside_counts.ensures.added
    (front_on _ _ _ _ c.in_ok-push_beyond.ensures.added h)))
    c.push_beyond-2.ensures.front
