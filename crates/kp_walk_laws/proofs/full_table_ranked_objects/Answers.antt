use Rattle.kp_walk_laws.proofs.Ranked.{full_table_ranked_objects_by}
use Rattle.kp_walk_laws.proofs.full_table_ranked_objects.Goals as goal

pub returns : goal.returns
returns c = full_table_ranked_objects_by
