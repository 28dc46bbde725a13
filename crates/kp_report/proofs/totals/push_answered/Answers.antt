use Rattle.std.proofs.Common.{codes, decimal}
use Rattle.std.proofs.lemmas.Result.{on_ok_weaker}
use Rattle.kp_report.proofs.Pieces.{two_labelled}
use Rattle.kp_report.proofs.totals.push_answered.Goals as goal

pub returns-clause-added : goal.returns-clause-added
returns-clause-added c =
    let totals = c.args.totals.now in
    on_ok_weaker c.push_labelled-2.result
    (two_labelled _ _ _ (codes ", to ") (decimal totals.to) (codes ", rejected ") (decimal totals.rejected) c.in_ok-push_labelled.ensures.added) c.push_labelled-2.ensures.added
