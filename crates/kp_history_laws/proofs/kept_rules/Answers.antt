use Rattle.kp_history_laws.proofs.Kept.{enough_by_rules, affected_are_enough, changed_are_enough}
use Rattle.kp_history_laws.proofs.kept_rules.Goals as goal

pub returns-clause-by_rules : goal.returns-clause-by_rules
returns-clause-by_rules c = enough_by_rules c.rules_by_name.ensures

pub returns-clause-affected : goal.returns-clause-affected
returns-clause-affected c =
    affected_are_enough c.rules_by_name.ensures c.own_keys.ensures.after_event c.unaffected_ports.ensures.rules

pub returns-clause-changed : goal.returns-clause-changed
returns-clause-changed c = changed_are_enough c.rules_by_name.ensures
