use Rattle.kp_table_laws.proofs.Families as lemmas
use Rattle.kp_table_laws.proofs.no_changes_beside.Goals as goal

pub returns : goal.returns
returns c = lemmas.no_changes_beside
