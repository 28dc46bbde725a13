use Rattle.kp_track_laws.proofs.Targets.{targets_stand}
use Rattle.kp_track_laws.proofs.laws.targets_stand.Goals as goal

pub returns : goal.returns
returns c = targets_stand
