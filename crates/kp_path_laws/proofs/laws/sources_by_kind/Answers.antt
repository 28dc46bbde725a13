use Rattle.kp_path_laws.proofs.DecidedAlike.{decided_alike}
use Rattle.kp_path_laws.proofs.LeastKinds.{kinds_rise, least_of_kind}
use Rattle.kp_path_laws.proofs.Said.{as_said}
use Rattle.kp_path_laws.proofs.Served.{one_source, served_alike}
use Rattle.kp_path_laws.proofs.SourceKinds.{one_kind}
use Rattle.kp_path_laws.proofs.laws.sources_by_kind.Goals as goal

pub returns-clause-kind : goal.returns-clause-kind
returns-clause-kind c = one_kind

pub returns-clause-source : goal.returns-clause-source
returns-clause-source c = one_source

pub returns-clause-served : goal.returns-clause-served
returns-clause-served c = served_alike

pub returns-clause-decided : goal.returns-clause-decided
returns-clause-decided c = decided_alike

pub returns-clause-said : goal.returns-clause-said
returns-clause-said c = as_said

pub returns-clause-rise : goal.returns-clause-rise
returns-clause-rise c = kinds_rise

pub returns-clause-least : goal.returns-clause-least
returns-clause-least c = least_of_kind
