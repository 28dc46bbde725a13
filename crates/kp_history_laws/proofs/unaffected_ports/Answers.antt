use Rattle.kp_history_laws.proofs.Affected.{unaffected_service, unaffected_inputs, unaffected_rules}
use Rattle.kp_history_laws.proofs.unaffected_ports.Goals as goal

pub returns-clause-service : goal.returns-clause-service
returns-clause-service c = unaffected_service

pub returns-clause-inputs : goal.returns-clause-inputs
returns-clause-inputs c = unaffected_inputs c.own_keys.ensures.after_event

pub returns-clause-rules : goal.returns-clause-rules
returns-clause-rules c = unaffected_rules c.own_keys.ensures.after_event
