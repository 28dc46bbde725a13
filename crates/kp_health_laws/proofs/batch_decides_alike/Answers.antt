use Rattle.kp_health_laws.proofs.AcceptWalks.{batch_decides_alike}
use Rattle.kp_health_laws.proofs.batch_decides_alike.Goals as goal

pub returns : goal.returns
returns c = batch_decides_alike
