use Rattle.std.specs.Prelude.{refl}
use Rattle.std.specs.Fmt.{digits}
use Rattle.kp_worked_paths.proofs.worked_sources.Goals as goal

pub returns-clause-local : goal.returns-clause-local
unfolding digits
returns-clause-local c = refl

pub returns-clause-admitted : goal.returns-clause-admitted
unfolding digits
returns-clause-admitted c = refl
