use Rattle.kp_object_laws.proofs.SlicesNow.{as_fed, without_controller, after_event, after_sync, under_own_keys, managed_can_be_packed}
use Rattle.kp_object_laws.proofs.slices_now.Goals as goal

pub returns-clause-as_fed : goal.returns-clause-as_fed
returns-clause-as_fed c = as_fed

pub returns-clause-without_controller : goal.returns-clause-without_controller
returns-clause-without_controller c = without_controller

pub returns-clause-after_event : goal.returns-clause-after_event
returns-clause-after_event c = after_event

pub returns-clause-after_sync : goal.returns-clause-after_sync
returns-clause-after_sync c = after_sync

pub returns-clause-own_keys : goal.returns-clause-own_keys
returns-clause-own_keys c = under_own_keys

pub returns-clause-can_be_packed : goal.returns-clause-can_be_packed
returns-clause-can_be_packed c = managed_can_be_packed
