use Rattle.kp_object_laws.proofs.Lists.{among_usable, lists_in_order, none_usable, cluster_empty, local_empty}
use Rattle.kp_object_laws.proofs.lists_of_usable.Goals as goal

pub returns-clause-among : goal.returns-clause-among
returns-clause-among c = among_usable

pub returns-clause-in_order : goal.returns-clause-in_order
returns-clause-in_order c = lists_in_order

pub returns-clause-none : goal.returns-clause-none
returns-clause-none c = none_usable

pub returns-clause-cluster : goal.returns-clause-cluster
returns-clause-cluster c = cluster_empty

pub returns-clause-local : goal.returns-clause-local
returns-clause-local c = local_empty
