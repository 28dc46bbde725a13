use Rattle.kp_run.proofs.LastLemmas.{last_live_table}
use Rattle.kp_run.proofs.laws.last_live_tables_are_full.Goals as goal

pub returns : goal.returns
returns c = last_live_table
