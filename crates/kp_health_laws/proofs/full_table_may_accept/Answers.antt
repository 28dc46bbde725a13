use Rattle.kp_health_laws.proofs.FullTables.{full_table_may_accept}
use Rattle.kp_health_laws.proofs.full_table_may_accept.Goals as goal

pub returns : goal.returns
returns c = full_table_may_accept
