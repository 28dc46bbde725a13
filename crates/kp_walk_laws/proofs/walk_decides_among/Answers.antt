use Rattle.kp_walk_laws.proofs.Theorem.{walk_decides_among_by}
use Rattle.kp_walk_laws.proofs.walk_decides_among.Goals as goal

pub returns : goal.returns
returns c = walk_decides_among_by
