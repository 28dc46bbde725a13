use Rattle.kp_history_laws.proofs.Steps.{runs_join, runs_split}
use Rattle.kp_history_laws.proofs.joined_runs.Goals as goal

pub returns-clause-join : goal.returns-clause-join
returns-clause-join c = runs_join

pub returns-clause-split : goal.returns-clause-split
returns-clause-split c = runs_split
