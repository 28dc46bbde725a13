use Rattle.kp_track_defs.proofs.Dead.{dead_stay_dead, moments_never_fall}
use Rattle.kp_track_defs.proofs.laws.dead_openers.Goals as goal

pub returns-clause-dead : goal.returns-clause-dead
returns-clause-dead c = dead_stay_dead

pub returns-clause-moments : goal.returns-clause-moments
returns-clause-moments c = moments_never_fall
