use Rattle.kp_text_laws.proofs.Shown.{covered_changes_read_back_by, covered_tables_read_back_by}
use Rattle.kp_text_laws.proofs.histories_read_back.Goals as goal

pub returns-clause-tables : goal.returns-clause-tables
returns-clause-tables c =
    covered_tables_read_back_by c.bounds.ensures.objects c.full_tables_read_back.ensures.objects

pub returns-clause-batches : goal.returns-clause-batches
returns-clause-batches c =
    covered_changes_read_back_by c.bounds.ensures.objects c.changes_read_back.ensures
