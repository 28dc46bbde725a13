use Rattle.std.specs.Prelude.{refl}
use Rattle.std.specs.Fmt.{digits}
use Rattle.kp_worked_texts.proofs.printed.worked_answers.Goals as goal

pub returns-clause-verdicts : goal.returns-clause-verdicts
unfolding digits
returns-clause-verdicts c = refl

pub returns-clause-sync : goal.returns-clause-sync
unfolding digits
returns-clause-sync c = refl

pub returns-clause-by_draws : goal.returns-clause-by_draws
unfolding digits
returns-clause-by_draws c = refl

pub returns-clause-by_affinity : goal.returns-clause-by_affinity
unfolding digits
returns-clause-by_affinity c = refl

pub returns-clause-shut : goal.returns-clause-shut
unfolding digits
returns-clause-shut c = refl

pub returns-clause-trails : goal.returns-clause-trails
unfolding digits
returns-clause-trails c = refl
