use Rattle.std.specs.Prelude.{refl}
use Rattle.std.specs.Fmt.{digits}
use Rattle.kp_worked_paths.proofs.worked_paths.Goals as goal

pub returns-clause-pod : goal.returns-clause-pod
unfolding digits
returns-clause-pod c = refl

pub returns-clause-no_door : goal.returns-clause-no_door
unfolding digits
returns-clause-no_door c = refl

pub returns-clause-no_endpoints : goal.returns-clause-no_endpoints
unfolding digits
returns-clause-no_endpoints c = refl

pub returns-clause-no_local : goal.returns-clause-no_local
unfolding digits
returns-clause-no_local c = refl

pub returns-clause-refused : goal.returns-clause-refused
unfolding digits
returns-clause-refused c = refl
