use Rattle.kp_change_laws.proofs.OfObjects.{silence_decides_by}
use Rattle.kp_change_laws.proofs.silence_decides_as_before.Goals as goal

pub returns : goal.returns
returns c = silence_decides_by
