use Rattle.kp_history_laws.proofs.Changed.{changed_inputs, unchanged_inputs, none_changed, affected_hold_changed, changed_in_order, affected_in_order}
use Rattle.kp_history_laws.proofs.changed_ports.Goals as goal

pub returns-clause-changed : goal.returns-clause-changed
returns-clause-changed c = changed_inputs

pub returns-clause-unchanged : goal.returns-clause-unchanged
returns-clause-unchanged c = unchanged_inputs

pub returns-clause-none : goal.returns-clause-none
returns-clause-none c = none_changed

pub returns-clause-affected : goal.returns-clause-affected
returns-clause-affected c = affected_hold_changed c.unaffected_ports.ensures.inputs

pub returns-clause-in_order : goal.returns-clause-in_order
returns-clause-in_order c = changed_in_order

pub returns-clause-affected_in_order : goal.returns-clause-affected_in_order
returns-clause-affected_in_order c = affected_in_order
