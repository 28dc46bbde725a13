use Rattle.kp_walk_laws.proofs.Ranked.{hashed_prefixed_by}
use Rattle.kp_walk_laws.proofs.hashed_prefixed.Goals as goal

pub returns : goal.returns
returns c = hashed_prefixed_by
