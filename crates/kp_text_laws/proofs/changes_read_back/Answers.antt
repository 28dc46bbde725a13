use Rattle.kp_text_laws.proofs.Batches.{changes_read_back_by}
use Rattle.kp_text_laws.proofs.changes_read_back.Goals as goal

pub returns : goal.returns
returns c =
    let tables = c.full_tables_read_back.ensures in
    changes_read_back_by c.changes_are_canonical.ensures c.changes_lead_over.ensures
    c.batch_texts_differ.ensures tables.own tables.objects tables.built_in
