use Rattle.kp_history_laws.proofs.Records.{exact_is_records, records_have_counts}
use Rattle.kp_history_laws.proofs.Records.{records_are_exact, records_stay, records_grow}
use Rattle.kp_history_laws.proofs.sync_records.Goals as goal

pub returns-clause-only : goal.returns-clause-only
returns-clause-only c = exact_is_records

pub returns-clause-counts : goal.returns-clause-counts
returns-clause-counts c = records_have_counts

pub returns-clause-exact : goal.returns-clause-exact
returns-clause-exact c = records_are_exact

pub returns-clause-stay : goal.returns-clause-stay
returns-clause-stay c = records_stay

pub returns-clause-grow : goal.returns-clause-grow
returns-clause-grow c = records_grow
