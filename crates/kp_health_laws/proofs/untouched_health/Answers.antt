use Rattle.kp_health_laws.proofs.Untouched.{health_by_all}
use Rattle.kp_health_laws.proofs.untouched_health.Goals as goal

pub returns : goal.returns
returns c = health_by_all c.untouched_ports.ensures.inputs_by_all
