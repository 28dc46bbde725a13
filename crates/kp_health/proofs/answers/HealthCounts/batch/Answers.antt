use Rattle.std.proofs.Common.{map, ap, ◌∙◌}
use Rattle.kp_health_defs.specs.AcceptRules.{health_batch_of}
use Rattle.kp_health.proofs.KnownAnswers.{known_values}
use Rattle.kp_health.proofs.answers.HealthCounts.batch.Goals as goal

pub returns : goal.returns
returns c config o known =
    c.in_ok-batch.ensures
    ∙ ap health_batch_of (c.in_ok-ports.ensures
    ∙ ap (map (λ h. h.port)) (known_values config o c.args.self.now known))
