use Rattle.kp_draws.proofs.Thresholds.{missing_matches_none}
use Rattle.kp_draws.proofs.laws.missing_draw_matches_no_test.Goals as goal

pub returns : goal.returns
returns c = missing_matches_none
