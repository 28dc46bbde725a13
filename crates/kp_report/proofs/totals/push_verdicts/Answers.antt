use Rattle.std.proofs.lemmas.Result.{on_ok_weaker}
use Rattle.kp_text_defs.specs.Live.{answered_text, unanswered_text}
use Rattle.kp_report.proofs.Pieces.{two_added}
use Rattle.kp_report.proofs.totals.push_verdicts.Goals as goal

pub returns-clause-added : goal.returns-clause-added
returns-clause-added c =
    let totals = c.args.totals.now in
    on_ok_weaker c.push_unanswered.result
    (two_added _ _ _ (answered_text totals) (unanswered_text totals) c.in_ok-push_answered.ensures.added) c.push_unanswered.ensures.added
