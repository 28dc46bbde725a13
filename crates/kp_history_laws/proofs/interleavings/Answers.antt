use Rattle.kp_history_laws.proofs.EveryRun.{history_is_exact, touched_hold_changed, tables_are_full, reads_decide, product_reads_decide, slices_of_steps}
use Rattle.kp_history_laws.proofs.Steps.{streams_keep_order, published_are_records, seen_is_published, seen_only_grows}
use Rattle.kp_history_laws.proofs.interleavings.Goals as goal

pub returns-clause-history : goal.returns-clause-history
returns-clause-history c =
    history_is_exact c.own_keys.ensures.after_events c.unaffected_ports.ensures.inputs c.kept_rules.ensures.by_rules
    c.ports_of_objects_make_the_table.ensures

pub returns-clause-touched : goal.returns-clause-touched
returns-clause-touched c =
    touched_hold_changed c.own_keys.ensures.after_events c.unaffected_ports.ensures.inputs c.kept_rules.ensures.by_rules
    c.ports_of_objects_make_the_table.ensures

pub returns-clause-tables : goal.returns-clause-tables
returns-clause-tables c =
    tables_are_full c.own_keys.ensures.after_events c.unaffected_ports.ensures.inputs c.kept_rules.ensures.by_rules
    c.ports_of_objects_make_the_table.ensures c.exact_tables.ensures.full

pub returns-clause-streams : goal.returns-clause-streams
returns-clause-streams c = streams_keep_order

pub returns-clause-published : goal.returns-clause-published
returns-clause-published c = published_are_records

pub returns-clause-seen : goal.returns-clause-seen
returns-clause-seen c = seen_is_published

pub returns-clause-grows : goal.returns-clause-grows
returns-clause-grows c = seen_only_grows

pub returns-clause-reads : goal.returns-clause-reads
returns-clause-reads c =
    reads_decide c.own_keys.ensures.after_events c.unaffected_ports.ensures.inputs c.kept_rules.ensures.by_rules
    c.ports_of_objects_make_the_table.ensures c.exact_tables.ensures.full c.walk_decides_objects.ensures

pub returns-clause-product : goal.returns-clause-product
returns-clause-product c =
    product_reads_decide c.own_keys.ensures.after_events c.unaffected_ports.ensures.inputs c.kept_rules.ensures.by_rules
    c.ports_of_objects_make_the_table.ensures c.exact_tables.ensures.full c.walk_decides_objects.ensures
    c.hashed_prefixed.ensures

pub returns-clause-slices : goal.returns-clause-slices
returns-clause-slices c =
    slices_of_steps c.slices_now.ensures.after_event c.slices_now.ensures.after_sync
    (history_is_exact c.own_keys.ensures.after_events c.unaffected_ports.ensures.inputs c.kept_rules.ensures.by_rules
    c.ports_of_objects_make_the_table.ensures)
