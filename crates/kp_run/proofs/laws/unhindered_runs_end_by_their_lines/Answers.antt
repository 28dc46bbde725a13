use Rattle.kp_run.proofs.Unhindered.{unhindered}
use Rattle.kp_run.proofs.laws.unhindered_runs_end_by_their_lines.Goals as goal

pub returns : goal.returns
returns c = unhindered
