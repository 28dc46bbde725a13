use Rattle.kp_run_defs.proofs.LastTables.{last_table_is_full}
use Rattle.kp_run_defs.proofs.laws.last_tables_are_full.Goals as goal

pub returns : goal.returns
returns c = last_table_is_full
