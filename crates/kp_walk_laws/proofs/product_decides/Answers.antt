use Rattle.kp_walk_laws.proofs.Theorem.{product_decides_by}
use Rattle.kp_walk_laws.proofs.product_decides.Goals as goal

pub returns : goal.returns
returns c = product_decides_by
