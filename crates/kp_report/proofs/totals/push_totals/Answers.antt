use Rattle.std.proofs.lemmas.Result.{on_ok_weaker}
use Rattle.kp_text_defs.specs.Live.{run_text, verdicts_text, changes_text}
use Rattle.kp_report.proofs.Pieces.{three_added}
use Rattle.kp_report.proofs.totals.push_totals.Goals as goal

pub returns-clause-added : goal.returns-clause-added
returns-clause-added c =
    let totals = c.args.totals.now in
    on_ok_weaker c.push_changes.result
    (three_added _ _ _ _ (run_text totals) (verdicts_text totals) (changes_text totals) c.in_ok-push_run.ensures.added
    c.in_ok-push_verdicts.ensures.added)
    c.push_changes.ensures.added
