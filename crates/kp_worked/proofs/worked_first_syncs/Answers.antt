use Rattle.std.proofs.Common.{[], ◌∷◌, refl}
use Rattle.kp_worked.specs.Setting.{web, second, infos}
use Rattle.kp_worked.specs.Decisions.{two, three, local_inside, local_node_port, with_external, balanced}
use Rattle.kp_worked.specs.Counts.{local_balancer}
use Rattle.kp_worked.proofs.Changes.{counts_are}
use Rattle.kp_worked.proofs.worked_first_syncs.Goals as goal

pub returns-clause-two : goal.returns-clause-two
returns-clause-two c = counts_are [] (infos web two) refl

pub returns-clause-three : goal.returns-clause-three
returns-clause-three c = counts_are [] (infos web three) refl

pub returns-clause-none : goal.returns-clause-none
returns-clause-none c = counts_are [] (infos web []) refl

pub returns-clause-no_local : goal.returns-clause-no_local
returns-clause-no_local c = counts_are [] (infos local_inside (second ∷ [])) refl

pub returns-clause-node_port : goal.returns-clause-node_port
returns-clause-node_port c = counts_are [] (infos local_node_port (second ∷ [])) refl

pub returns-clause-external : goal.returns-clause-external
returns-clause-external c = counts_are [] (infos with_external []) refl

pub returns-clause-ranges : goal.returns-clause-ranges
returns-clause-ranges c = counts_are [] (infos balanced two) refl

pub returns-clause-ranges_of_none : goal.returns-clause-ranges_of_none
returns-clause-ranges_of_none c = counts_are [] (infos balanced []) refl

pub returns-clause-balancer : goal.returns-clause-balancer
returns-clause-balancer c = counts_are [] (infos local_balancer two) refl
