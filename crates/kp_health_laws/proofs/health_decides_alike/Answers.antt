use Rattle.kp_health_laws.proofs.FullTables.{health_decides_alike, health_jump_decides_alike}
use Rattle.kp_health_laws.proofs.health_decides_alike.Goals as goal

pub returns-clause-alone : goal.returns-clause-alone
returns-clause-alone c = health_decides_alike

pub returns-clause-jump : goal.returns-clause-jump
returns-clause-jump c = health_jump_decides_alike
