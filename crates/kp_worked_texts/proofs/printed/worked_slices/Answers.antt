use Rattle.std.specs.Prelude.{refl}
use Rattle.std.specs.Fmt.{digits}
use Rattle.kp_worked_texts.proofs.printed.worked_slices.Goals as goal

pub returns-clause-lines : goal.returns-clause-lines
unfolding digits
returns-clause-lines c = refl

pub returns-clause-entries : goal.returns-clause-entries
unfolding digits
returns-clause-entries c = refl
