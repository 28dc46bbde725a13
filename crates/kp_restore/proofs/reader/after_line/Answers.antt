use Rattle.std.proofs.Common.{sym, ap, ◌∙◌}
use Rattle.std.proofs.lemmas.Result.{IfOk-weaker}
use Rattle.kp_restore.specs.Steps.{step}
use Rattle.kp_restore.proofs.LineTexts.{line_exact}
use Rattle.kp_restore.proofs.reader.after_line.Goals as goal

pub returns-in-Some-clause-refused : goal.returns-in-Some-clause-refused
returns-in-Some-clause-refused c =
    IfOk-weaker c.step.result _ _
    (λ next h n line good e. ap (step c.args.form c.args.so_far) (line_exact c.args.family line c.in-Some.line good c.in-Some.ensures.canonical (e ∙ sym c.in-Some.ensures.line)) ∙ sym h ∙ n)
    c.step.ensures
