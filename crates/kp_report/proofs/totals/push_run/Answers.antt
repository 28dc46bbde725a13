use Rattle.std.proofs.Common.{codes, decimal}
use Rattle.std.proofs.lemmas.Result.{on_ok_weaker}
use Rattle.kp_report.proofs.Pieces.{three_labelled}
use Rattle.kp_report.proofs.totals.push_run.Goals as goal

pub returns-clause-added : goal.returns-clause-added
returns-clause-added c =
    let totals = c.args.totals.now in
    on_ok_weaker c.push_labelled-3.result
    (three_labelled _ _ _ _ (codes "gen: events ") (decimal totals.events) (codes ", syncs ") (decimal totals.syncs) (codes ", packets ") (decimal totals.packets) c.in_ok-push_labelled.ensures.added c.in_ok-push_labelled-2.ensures.added) c.push_labelled-3.ensures.added
