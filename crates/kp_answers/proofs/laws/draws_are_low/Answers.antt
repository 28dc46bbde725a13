use Rattle.kp_answers.proofs.DrawLemmas.{draw_low}
use Rattle.kp_answers.proofs.laws.draws_are_low.Goals as goal

pub returns : goal.returns
returns c = λ number line k. draw_low number line.draws k line.low
