use Rattle.kp_history_laws.proofs.Histories.{exact_without_records, exact_by_events, exact_by_record, covered_stays, covered_by_record}
use Rattle.kp_history_laws.proofs.exact_histories.Goals as goal

pub returns-clause-at_first : goal.returns-clause-at_first
returns-clause-at_first c = exact_without_records

pub returns-clause-by_events : goal.returns-clause-by_events
returns-clause-by_events c = exact_by_events

pub returns-clause-by_record : goal.returns-clause-by_record
returns-clause-by_record c = exact_by_record

pub returns-clause-stays : goal.returns-clause-stays
returns-clause-stays c = covered_stays

pub returns-clause-all : goal.returns-clause-all
returns-clause-all c = covered_by_record
