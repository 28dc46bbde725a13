use Rattle.kp_table_laws.proofs.ChangedPorts.{no_clash_of_changed_ports}
use Rattle.kp_table_laws.proofs.no_clash_of_changed_ports.Goals as goal

pub returns : goal.returns
returns c = no_clash_of_changed_ports
