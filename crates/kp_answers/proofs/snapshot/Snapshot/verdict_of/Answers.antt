use Rattle.std.proofs.Common.{rules}
use Rattle.std.proofs.lemmas.Result.{IfOk-weaker, on_ok_weaker, on_err_weaker}
use Rattle.kp_run_defs.specs.AnswerText.{draws_at}
use Rattle.kp_answers.proofs.DrawLemmas.{draw_low}
use Rattle.kp_answers.proofs.snapshot.Snapshot.verdict_of.Goals as goal

pub returns-clause-verdict : goal.returns-clause-verdict
returns-clause-verdict c =
    IfOk-weaker c.verdict_of.result _ _
    (λ verdict at. at (draws_at c.args.number c.args.line.now.draws) (λ k small.
    (search rules, draw_low c.args.number c.args.line.now.draws k c.args.line.now.low)))
    c.verdict_of.ensures.verdict

pub returns-clause-lists : goal.returns-clause-lists
returns-clause-lists c =
    on_ok_weaker c.verdict_of.result
    (λ at. at (draws_at c.args.number c.args.line.now.draws) (λ k small.
    (search rules, draw_low c.args.number c.args.line.now.draws k c.args.line.now.low)))
    c.verdict_of.ensures.lists

pub returns-clause-refused : goal.returns-clause-refused
returns-clause-refused c =
    on_err_weaker c.verdict_of.result
    (λ at. at (draws_at c.args.number c.args.line.now.draws) (λ k small.
    (search rules, draw_low c.args.number c.args.line.now.draws k c.args.line.now.low)))
    c.verdict_of.ensures.refused
