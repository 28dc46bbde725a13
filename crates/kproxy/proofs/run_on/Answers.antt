use Rattle.std.proofs.Common.{◌∙◌, sym}
use Rattle.kp_run.proofs.Replays.{no_usage}
use Rattle.kproxy.proofs.run_on.Goals.{in-Some, in-None}
use Rattle.kproxy.proofs.run_on.Goals as goal

pub returns : goal.returns
returns g c = λ asks usage.
    elim c.match-run_alone.branch [
      | in-Some w ↦ no_usage _ _ _ _ _ w.in-Some.status asks w.in-Some.ensures.some (sym w.status-is ∙ usage)
      | in-None w ↦ no_usage _ _ _ _ _ w.run-status.result asks w.run-status.ensures.ends (sym w.status-is ∙ usage)
    ]
