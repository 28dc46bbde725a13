use Rattle.std.specs.Prelude.{refl}
use Rattle.std.specs.Fmt.{digits}
use Rattle.kp_worked.proofs.worked_repacking.Goals as goal

pub returns-clause-new : goal.returns-clause-new
unfolding digits
returns-clause-new c = refl

pub returns-clause-fullest : goal.returns-clause-fullest
unfolding digits
returns-clause-fullest c = refl

pub returns-clause-filled : goal.returns-clause-filled
unfolding digits
returns-clause-filled c = refl

pub returns-clause-shrunk : goal.returns-clause-shrunk
unfolding digits
returns-clause-shrunk c = refl

pub returns-clause-other_ports : goal.returns-clause-other_ports
unfolding digits
returns-clause-other_ports c = refl

pub returns-clause-unchanged : goal.returns-clause-unchanged
unfolding digits
returns-clause-unchanged c = refl
