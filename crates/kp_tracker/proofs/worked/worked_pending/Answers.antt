use Rattle.kp_tracker.proofs.WorkedPending.{changed_are_pending, out_of_order, with_old}
use Rattle.kp_tracker.proofs.WorkedPending.{without_lost}
use Rattle.kp_tracker.proofs.worked.worked_pending.Goals as goal

pub returns-clause-pending : goal.returns-clause-pending
returns-clause-pending c = changed_are_pending

pub returns-clause-lost : goal.returns-clause-lost
returns-clause-lost c = without_lost

pub returns-clause-old : goal.returns-clause-old
returns-clause-old c = with_old

pub returns-clause-in_order : goal.returns-clause-in_order
returns-clause-in_order c = out_of_order
