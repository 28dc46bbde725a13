use Rattle.kp_text_laws.proofs.ReadLines as lines
use Rattle.kp_text_laws.proofs.replays_are_bounded.Goals as goal

pub returns-clause-config : goal.returns-clause-config
returns-clause-config c = lines.config_is_bounded

pub returns-clause-packets : goal.returns-clause-packets
returns-clause-packets c = lines.packet_is_bounded

pub returns-clause-lines : goal.returns-clause-lines
returns-clause-lines c = lines.lines_are_bounded c.bounds.ensures.read

pub returns-clause-replays : goal.returns-clause-replays
returns-clause-replays c = lines.replays_are_bounded c.bounds.ensures.read
