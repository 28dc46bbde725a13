use Rattle.kp_rules.proofs.RankedWalk as lemmas
use Rattle.kp_rules.proofs.laws.ranked_walks_end.Goals as goal

pub returns : goal.returns
returns c = lemmas.ranked_walks_end
