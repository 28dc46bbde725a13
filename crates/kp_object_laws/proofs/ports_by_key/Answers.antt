use Rattle.kp_object_laws.proofs.PortByKey.{port_is_named, info_has_key, infos_by_keys}
use Rattle.kp_object_laws.proofs.ports_by_key.Goals as goal

pub returns-clause-named : goal.returns-clause-named
returns-clause-named c = port_is_named

pub returns-clause-key : goal.returns-clause-key
returns-clause-key c = info_has_key

pub returns-clause-all : goal.returns-clause-all
returns-clause-all c = infos_by_keys
