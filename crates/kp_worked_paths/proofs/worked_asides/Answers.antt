use Rattle.std.specs.Prelude.{refl}
use Rattle.std.specs.Fmt.{digits}
use Rattle.kp_worked_paths.proofs.worked_asides.Goals as goal

pub returns-clause-zone : goal.returns-clause-zone
unfolding digits
returns-clause-zone c = refl

pub returns-clause-node : goal.returns-clause-node
unfolding digits
returns-clause-node c = refl

pub returns-clause-kept : goal.returns-clause-kept
unfolding digits
returns-clause-kept c = refl

pub returns-clause-one_way : goal.returns-clause-one_way
unfolding digits
returns-clause-one_way c = refl
