use Rattle.kp_history_defs.specs.Inputs.{inputs_of}
use Rattle.kp_touch_laws.specs.TouchLaws.{known_at, rules_in}
use Rattle.kp_touch_laws.proofs.Untouched.{leave_by_all, untouched_inputs, untouched_infos}
use Rattle.kp_touch_laws.proofs.Untouched.{untouched_rules}
use Rattle.kp_touch_laws.proofs.untouched_ports.Goals as goal

pub returns-clause-inputs : goal.returns-clause-inputs
returns-clause-inputs c = untouched_inputs c.unaffected_ports.ensures.service

pub returns-clause-infos : goal.returns-clause-infos
returns-clause-infos c =
    untouched_infos c.unaffected_ports.ensures.service c.own_keys.ensures.after_event
    c.changed_ports.ensures.changed c.dirty_ports.ensures.changed c.dirty_ports.ensures.clean

pub returns-clause-rules : goal.returns-clause-rules
returns-clause-rules c =
    untouched_rules c.unaffected_ports.ensures.service c.own_keys.ensures.after_event
    c.changed_ports.ensures.changed c.dirty_ports.ensures.changed c.dirty_ports.ensures.clean

pub returns-clause-inputs_by_all : goal.returns-clause-inputs_by_all
returns-clause-inputs_by_all c =
    leave_by_all inputs_of c.own_keys.ensures.after_event
    (untouched_inputs c.unaffected_ports.ensures.service)

pub returns-clause-infos_by_all : goal.returns-clause-infos_by_all
returns-clause-infos_by_all c family =
    leave_by_all (known_at family) c.own_keys.ensures.after_event
    (untouched_infos c.unaffected_ports.ensures.service c.own_keys.ensures.after_event
    c.changed_ports.ensures.changed c.dirty_ports.ensures.changed c.dirty_ports.ensures.clean
    family)

pub returns-clause-rules_by_all : goal.returns-clause-rules_by_all
returns-clause-rules_by_all c family =
    leave_by_all (rules_in family) c.own_keys.ensures.after_event
    (untouched_rules c.unaffected_ports.ensures.service c.own_keys.ensures.after_event
    c.changed_ports.ensures.changed c.dirty_ports.ensures.changed c.dirty_ports.ensures.clean
    family)
