use Rattle.kp_object_laws.proofs.FamilyEntries.{entries_of_both_in, entries_of_both_in_order}
use Rattle.kp_object_laws.proofs.Lists.{counted_in_order, entries_in_order}
use Rattle.kp_object_laws.proofs.endpoints_in_order.Goals as goal

pub returns-clause-counted : goal.returns-clause-counted
returns-clause-counted c = counted_in_order

pub returns-clause-entries : goal.returns-clause-entries
returns-clause-entries c = entries_in_order

pub returns-clause-both : goal.returns-clause-both
returns-clause-both c = entries_of_both_in_order

pub returns-clause-by_family : goal.returns-clause-by_family
returns-clause-by_family c = entries_of_both_in
