use Rattle.kp_history_laws.proofs.DirtyPorts.{dirty_infos, clean_infos, dirty_are_changed}
use Rattle.kp_history_laws.proofs.DirtyPorts.{none_dirty, dirty_in_order}
use Rattle.kp_history_laws.proofs.dirty_ports.Goals as goal

pub returns-clause-dirty : goal.returns-clause-dirty
returns-clause-dirty c = dirty_infos

pub returns-clause-clean : goal.returns-clause-clean
returns-clause-clean c = clean_infos

pub returns-clause-changed : goal.returns-clause-changed
returns-clause-changed c = dirty_are_changed c.changed_ports.ensures.unchanged

pub returns-clause-none : goal.returns-clause-none
returns-clause-none c = none_dirty

pub returns-clause-in_order : goal.returns-clause-in_order
returns-clause-in_order c = dirty_in_order
