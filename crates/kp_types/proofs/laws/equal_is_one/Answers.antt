use Rattle.kp_types.proofs.ObjectEquality.{pair_exact, target_port_exact, service_port_exact, service_exact, candidate_exact}
use Rattle.kp_types.proofs.laws.equal_is_one.Goals as goal

pub returns-clause-pair : goal.returns-clause-pair
returns-clause-pair c = pair_exact

pub returns-clause-target_port : goal.returns-clause-target_port
returns-clause-target_port c = target_port_exact

pub returns-clause-service_port : goal.returns-clause-service_port
returns-clause-service_port c = service_port_exact

pub returns-clause-service : goal.returns-clause-service
returns-clause-service c = service_exact

pub returns-clause-candidate : goal.returns-clause-candidate
returns-clause-candidate c = candidate_exact
