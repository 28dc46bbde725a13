use Rattle.kp_vmap_defs.proofs.Picked.{same_door_and_list, same_where_found}
use Rattle.kp_vmap_defs.proofs.laws.doors_and_lists.Goals as goal

pub returns-clause-same : goal.returns-clause-same
returns-clause-same c = same_door_and_list

pub returns-clause-found : goal.returns-clause-found
returns-clause-found c = same_where_found
