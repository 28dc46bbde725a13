use Rattle.kp_draws.proofs.Thresholds.{certain_matches_all}
use Rattle.kp_draws.proofs.laws.certain_test_matches_all.Goals as goal

pub returns : goal.returns
returns c = certain_matches_all
