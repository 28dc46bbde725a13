use Rattle.kp_track_defs.proofs.Live.{few_live, one_owner}
use Rattle.kp_track_defs.proofs.laws.live_openers.Goals as goal

pub returns-clause-one : goal.returns-clause-one
returns-clause-one c = one_owner

pub returns-clause-few : goal.returns-clause-few
returns-clause-few c = few_live
