use Rattle.kp_walk_laws.proofs.KnownPorts.{known_ports_by}
use Rattle.kp_walk_laws.proofs.known_ports.Goals as goal

pub returns : goal.returns
returns c = known_ports_by
