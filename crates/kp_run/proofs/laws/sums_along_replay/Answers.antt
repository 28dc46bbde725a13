use Rattle.kp_run.proofs.SumLemmas.{along}
use Rattle.kp_run.proofs.laws.sums_along_replay.Goals as goal

pub returns : goal.returns
returns c = along
