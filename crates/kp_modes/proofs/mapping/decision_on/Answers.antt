use Rattle.std.proofs.Common.{rules}
use Rattle.kp_run_defs.specs.AnswerText.{draws_at}
use Rattle.kp_modes.proofs.mapping.decision_on.Goals as goal

pub returns : goal.returns
returns c =
    c.explain.ensures (draws_at c.args.number c.args.line.now.draws)
    (λ k small. (search rules, c.draws_are_low.ensures c.args.number c.args.line.now k))
