use Rattle.kp_text_laws.proofs.ObjectBounds.{objects_are_bounded}
use Rattle.kp_text_laws.proofs.PortBounds.{ports_are_bounded}
use Rattle.kp_text_laws.proofs.ReadObjects.{read_is_bounded}
use Rattle.kp_text_laws.proofs.bounds.Goals as goal

pub returns-clause-read : goal.returns-clause-read
returns-clause-read c = read_is_bounded

pub returns-clause-objects : goal.returns-clause-objects
returns-clause-objects c = objects_are_bounded

pub returns-clause-ports : goal.returns-clause-ports
returns-clause-ports c = ports_are_bounded
