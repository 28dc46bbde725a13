use Rattle.std.proofs.Common.{refl}
use Rattle.kp_vmap.proofs.vmap.Vmap.look.Goals as goal

pub returns-clause-lacks : goal.returns-clause-lacks
returns-clause-lacks g c = λ drawn are. c.decide_among-verdict.ensures.set drawn are refl refl
