use Rattle.kp_object_laws.proofs.OwnKeys.{own_at_first, own_after_event, own_after_events}
use Rattle.kp_object_laws.proofs.own_keys.Goals as goal

pub returns-clause-at_first : goal.returns-clause-at_first
returns-clause-at_first c = own_at_first

pub returns-clause-after_event : goal.returns-clause-after_event
returns-clause-after_event c = own_after_event

pub returns-clause-after_events : goal.returns-clause-after_events
returns-clause-after_events c = own_after_events
