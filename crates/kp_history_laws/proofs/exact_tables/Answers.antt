use Rattle.kp_history_laws.proofs.Tables.{table_counted}
use Rattle.kp_history_laws.proofs.Tables as tables
use Rattle.kp_history_laws.proofs.exact_tables.Goals as goal

pub returns-clause-full : goal.returns-clause-full
returns-clause-full c = tables.exact_tables c.changes_lead_over.ensures

pub returns-clause-counted : goal.returns-clause-counted
returns-clause-counted c = table_counted
