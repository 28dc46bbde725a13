use Rattle.std.proofs.Common.{rules}
use Rattle.std.proofs.lemmas.Result.{IfOk-weaker, on_err_weaker}
use Rattle.kp_run_defs.specs.AnswerText.{draws_at}
use Rattle.kp_answers.proofs.DrawLemmas.{draw_low}
use Rattle.kp_answers.proofs.snapshot.Snapshot.walk.Goals as goal

pub returns-clause-walk : goal.returns-clause-walk
returns-clause-walk c =
    IfOk-weaker c.walk.result _ _
    (λ answer at. at (draws_at c.args.number c.args.line.now.draws) (λ k small.
    (search rules, draw_low c.args.number c.args.line.now.draws k c.args.line.now.low)))
    c.walk.ensures.walk

pub returns-clause-refused : goal.returns-clause-refused
returns-clause-refused c =
    on_err_weaker c.walk.result
    (λ at. at (draws_at c.args.number c.args.line.now.draws) (λ k small.
    (search rules, draw_low c.args.number c.args.line.now.draws k c.args.line.now.low)))
    c.walk.ensures.refused
