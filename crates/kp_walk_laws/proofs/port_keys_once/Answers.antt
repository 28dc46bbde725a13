use Rattle.kp_walk_laws.proofs.KnownPorts.{port_keys_once_by}
use Rattle.kp_walk_laws.proofs.port_keys_once.Goals as goal

pub returns : goal.returns
returns c = port_keys_once_by
