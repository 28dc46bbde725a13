use Rattle.std.proofs.Common.{rules}
use Rattle.kp_run_defs.specs.ReplayText.{draws_at}
use Rattle.kp_mode.proofs.packets.decision_on.Goals as goal

pub returns-clause-decided : goal.returns-clause-decided
returns-clause-decided c =
    c.explain.ensures.decided (draws_at c.args.number c.args.line.now.draws)
    (λ k small. (search rules, c.draws_are_low.ensures c.args.number c.args.line.now k))
