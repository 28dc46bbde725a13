use Rattle.kp_writer.proofs.KnownPorts as lemmas
use Rattle.kp_writer.proofs.laws.known_ports.Goals as goal

pub returns : goal.returns
returns c = lemmas.known_ports c.infos_by_name.ensures c.ports_are_in_order.ensures
