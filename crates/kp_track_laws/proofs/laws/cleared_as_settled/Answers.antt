use Rattle.kp_track_laws.proofs.Targets.{cleared_as_settled}
use Rattle.kp_track_laws.proofs.laws.cleared_as_settled.Goals as goal

pub returns : goal.returns
returns c = cleared_as_settled c.kept_openers.ensures.clears
