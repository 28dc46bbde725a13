use Rattle.std.specs.Prelude.{refl}
use Rattle.std.specs.Fmt.{digits}
use Rattle.kp_worked.proofs.worked_packing.Goals as goal

pub returns-clause-new : goal.returns-clause-new
unfolding digits
returns-clause-new c = refl

pub returns-clause-nearly_full : goal.returns-clause-nearly_full
unfolding digits
returns-clause-nearly_full c = refl

pub returns-clause-taken : goal.returns-clause-taken
unfolding digits
returns-clause-taken c = refl

pub returns-clause-groups : goal.returns-clause-groups
unfolding digits
returns-clause-groups c = refl
