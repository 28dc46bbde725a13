use Rattle.std.proofs.Common.{refl}
use Rattle.kp_store.proofs.touched.Touched.add_all.Goals as goal

pub returns : goal.returns
returns c = λ k. refl
