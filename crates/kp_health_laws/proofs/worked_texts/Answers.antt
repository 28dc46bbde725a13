use Rattle.std.specs.Prelude.{refl}
use Rattle.std.specs.Fmt.{digits}
use Rattle.json.specs.Print.{escape_byte}
use Rattle.kp_health_laws.proofs.worked_texts.Goals as goal

pub returns-clause-line : goal.returns-clause-line
unfolding digits
returns-clause-line c = refl

pub returns-clause-body : goal.returns-clause-body
unfolding digits escape_byte
returns-clause-body c = refl

pub returns-clause-ok : goal.returns-clause-ok
unfolding digits
returns-clause-ok c = refl

pub returns-clause-unavailable : goal.returns-clause-unavailable
unfolding digits
returns-clause-unavailable c = refl

pub returns-clause-accept : goal.returns-clause-accept
unfolding digits
returns-clause-accept c = refl
