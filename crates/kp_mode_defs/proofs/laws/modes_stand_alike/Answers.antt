use Rattle.kp_mode_defs.proofs.Alike.{stands_alike, stands_same}
use Rattle.kp_mode_defs.proofs.laws.modes_stand_alike.Goals as goal

pub returns-clause-alike : goal.returns-clause-alike
returns-clause-alike g c m = stands_alike m

pub returns-clause-same : goal.returns-clause-same
returns-clause-same g c m = stands_same m
