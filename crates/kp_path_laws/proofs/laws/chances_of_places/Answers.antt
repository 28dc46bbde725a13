use Rattle.kp_path_laws.proofs.Chances.{chance_beside_exact, chance_is_share, chances_add_up, last_takes_all, left_beside_rest}
use Rattle.kp_path_laws.proofs.laws.chances_of_places.Goals as goal

pub returns-clause-add_up : goal.returns-clause-add_up
returns-clause-add_up c = chances_add_up

pub returns-clause-share : goal.returns-clause-share
returns-clause-share c = chance_is_share

pub returns-clause-last : goal.returns-clause-last
returns-clause-last c = last_takes_all

pub returns-clause-left : goal.returns-clause-left
returns-clause-left c = left_beside_rest

pub returns-clause-exact : goal.returns-clause-exact
returns-clause-exact c = chance_beside_exact
