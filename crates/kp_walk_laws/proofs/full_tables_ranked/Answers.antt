use Rattle.kp_walk_laws.proofs.Ranked.{full_tables_ranked_by}
use Rattle.kp_walk_laws.proofs.full_tables_ranked.Goals as goal

pub returns : goal.returns
returns c = full_tables_ranked_by
