use Rattle.kp_change_laws.proofs.Decides.{decides_as_before_by}
use Rattle.kp_change_laws.proofs.decides_as_before.Goals as goal

pub returns : goal.returns
returns c = decides_as_before_by
