use Rattle.kp_vmap_defs.proofs.KnownPorts.{map_decides, map_knows_ports}
use Rattle.kp_vmap_defs.proofs.laws.map_decisions.Goals as goal

pub returns-clause-ports : goal.returns-clause-ports
returns-clause-ports c = map_knows_ports

pub returns-clause-decides : goal.returns-clause-decides
returns-clause-decides c = map_decides
