use Rattle.kp_writer.proofs.ServicePorts as lemmas
use Rattle.kp_writer.proofs.laws.known_of_service.Goals as goal

pub returns : goal.returns
returns c = lemmas.known_of_service c.ports_by_key.ensures.key
