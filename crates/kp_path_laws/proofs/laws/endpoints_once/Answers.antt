use Rattle.kp_path_laws.proofs.Endpoints.{answered_where_fits, each_endpoint_once}
use Rattle.kp_path_laws.proofs.Reached.{paths_reach}
use Rattle.kp_path_laws.proofs.laws.endpoints_once.Goals as goal

pub returns-clause-reach : goal.returns-clause-reach
returns-clause-reach c = paths_reach

pub returns-clause-once : goal.returns-clause-once
returns-clause-once c = each_endpoint_once

pub returns-clause-answered : goal.returns-clause-answered
returns-clause-answered c = answered_where_fits
