use Rattle.kp_object_laws.proofs.Wanted.{wanted_of_objects, wanted_of_own_pods, desired_of_own_pods}
use Rattle.kp_object_laws.proofs.NamedPods.{wanted_name_pods, desired_name_pods}
use Rattle.kp_object_laws.proofs.wanted_endpoints.Goals as goal

pub returns-clause-of_objects : goal.returns-clause-of_objects
returns-clause-of_objects c = wanted_of_objects

pub returns-clause-own_pods : goal.returns-clause-own_pods
returns-clause-own_pods c = wanted_of_own_pods

pub returns-clause-desired : goal.returns-clause-desired
returns-clause-desired c = desired_of_own_pods

pub returns-clause-named : goal.returns-clause-named
returns-clause-named c = wanted_name_pods

pub returns-clause-desired_named : goal.returns-clause-desired_named
returns-clause-desired_named c = desired_name_pods
