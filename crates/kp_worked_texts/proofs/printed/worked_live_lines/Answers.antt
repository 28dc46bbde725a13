use Rattle.std.specs.Prelude.{refl}
use Rattle.std.specs.Fmt.{digits}
use Rattle.kp_worked_texts.proofs.printed.worked_live_lines.Goals as goal

pub returns-clause-events : goal.returns-clause-events
unfolding digits
returns-clause-events c = refl

pub returns-clause-record : goal.returns-clause-record
unfolding digits
returns-clause-record c = refl

pub returns-clause-sync : goal.returns-clause-sync
unfolding digits
returns-clause-sync c = refl

pub returns-clause-last : goal.returns-clause-last
unfolding digits
returns-clause-last c = refl

pub returns-clause-clash : goal.returns-clause-clash
unfolding digits
returns-clause-clash c = refl

pub returns-clause-totals : goal.returns-clause-totals
unfolding digits
returns-clause-totals c = refl
