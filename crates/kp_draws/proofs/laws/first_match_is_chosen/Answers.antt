use Rattle.kp_draws.proofs.FirstMatch.{first_match}
use Rattle.kp_draws.proofs.laws.first_match_is_chosen.Goals as goal

pub returns : goal.returns
returns c = first_match
