use Rattle.kp_part_laws.proofs.Decisions as decisions
use Rattle.kp_part_laws.proofs.decides_unseen.Goals as goal

pub returns : goal.returns
returns c = decisions.decides_unseen
