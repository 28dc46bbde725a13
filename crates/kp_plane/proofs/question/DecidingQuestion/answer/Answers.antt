use Rattle.kp_plane.proofs.Questions.{of_each}
use Rattle.kp_plane.proofs.question.DecidingQuestion.answer.Goals as goal

pub returns : goal.returns
returns g c =
    of_each c.decide.result _ (λ drawn. of_each c.decide.result _ (c.decide.ensures drawn))
