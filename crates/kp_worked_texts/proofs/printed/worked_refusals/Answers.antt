use Rattle.std.specs.Prelude.{refl}
use Rattle.std.specs.Fmt.{digits}
use Rattle.json.specs.Print.{escape_byte}
use Rattle.kp_worked_texts.proofs.printed.worked_refusals.Goals as goal

pub returns-clause-lines : goal.returns-clause-lines
unfolding digits
returns-clause-lines c = refl

pub returns-clause-clashes : goal.returns-clause-clashes
unfolding digits
returns-clause-clashes c = refl

pub returns-clause-quoted : goal.returns-clause-quoted
unfolding digits escape_byte
returns-clause-quoted c = refl

pub returns-clause-members : goal.returns-clause-members
unfolding digits escape_byte
returns-clause-members c = refl
