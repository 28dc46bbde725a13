use Rattle.kp_run_defs.proofs.Counting.{legal_is_counted}
use Rattle.kp_run_defs.proofs.laws.legal_runs_are_counted.Goals as goal

pub returns : goal.returns
returns c = legal_is_counted
