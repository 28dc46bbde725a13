use Rattle.kp_health_laws.proofs.AcceptWalks.{jump_decides_alike}
use Rattle.kp_health_laws.proofs.jump_decides_alike.Goals as goal

pub returns : goal.returns
returns c = jump_decides_alike
