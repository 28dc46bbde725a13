use Rattle.kp_text_laws.proofs.Shown.{sections_are_table, shown_tables_read_back_by, shown_batches_read_back_by}
use Rattle.kp_text_laws.proofs.shown_texts_read_back.Goals as goal

pub returns-clause-sections : goal.returns-clause-sections
returns-clause-sections c = sections_are_table

pub returns-clause-tables : goal.returns-clause-tables
returns-clause-tables c =
    shown_tables_read_back_by c.replays_are_bounded.ensures.replays c.product_is_printable.ensures
    c.histories_read_back.ensures.tables

pub returns-clause-batches : goal.returns-clause-batches
returns-clause-batches c =
    shown_batches_read_back_by c.replays_are_bounded.ensures.replays c.product_is_printable.ensures
    c.histories_read_back.ensures.batches
