use Rattle.kp_text_laws.proofs.Tables.{full_chains_canonical_by, full_table_canonical_by, full_table_reads_back_by, full_tables_have_same_built_in_by, own_table_canonical_by, rebuilt_reads_back_by}
use Rattle.kp_text_laws.proofs.full_tables_read_back.Goals as goal

pub returns-clause-chains : goal.returns-clause-chains
returns-clause-chains c = full_chains_canonical_by c.full_table_ranked.ensures

pub returns-clause-ports : goal.returns-clause-ports
returns-clause-ports c =
    full_table_canonical_by c.full_table_ranked.ensures
    (full_chains_canonical_by c.full_table_ranked.ensures)

pub returns-clause-own : goal.returns-clause-own
returns-clause-own c =
    own_table_canonical_by (full_table_canonical_by c.full_table_ranked.ensures
    (full_chains_canonical_by c.full_table_ranked.ensures))
    c.known_ports.ensures c.bounds.ensures.ports

pub returns-clause-objects : goal.returns-clause-objects
returns-clause-objects c =
    full_table_reads_back_by (own_table_canonical_by
    (full_table_canonical_by c.full_table_ranked.ensures
    (full_chains_canonical_by c.full_table_ranked.ensures))
    c.known_ports.ensures c.bounds.ensures.ports)
    c.full_table_ranked_objects.ensures c.table_texts_differ.ensures

pub returns-clause-rebuilt : goal.returns-clause-rebuilt
returns-clause-rebuilt c =
    rebuilt_reads_back_by
    (full_table_reads_back_by (own_table_canonical_by
    (full_table_canonical_by c.full_table_ranked.ensures
    (full_chains_canonical_by c.full_table_ranked.ensures))
    c.known_ports.ensures c.bounds.ensures.ports)
    c.full_table_ranked_objects.ensures c.table_texts_differ.ensures)
    c.product_is_printable.ensures

pub returns-clause-built_in : goal.returns-clause-built_in
returns-clause-built_in c = full_tables_have_same_built_in_by
