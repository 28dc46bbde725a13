use Rattle.kp_writer.proofs.KnownPorts as lemmas
use Rattle.kp_writer.proofs.laws.known_dirty_ports.Goals as goal

pub returns-clause-ports : goal.returns-clause-ports
returns-clause-ports c =
    lemmas.known_dirty_ports c.dirty_ports.ensures.dirty c.dirty_ports.ensures.clean

pub returns-clause-written : goal.returns-clause-written
returns-clause-written c =
    lemmas.dirty_written c.dirty_ports.ensures.dirty c.dirty_ports.ensures.clean
    c.ports_by_key.ensures.key

pub returns-clause-newest : goal.returns-clause-newest
returns-clause-newest c =
    lemmas.dirty_newest c.dirty_ports.ensures.dirty c.dirty_ports.ensures.clean
    c.ports_by_key.ensures.key
