use Rattle.std.proofs.Common.{◌++◌, List, map, flat_map, string_bytes, ap, ◌∙◌}
use Rattle.std.proofs.lemmas.Result.{on_ok_weaker}
use Rattle.kp_health_defs.specs.HealthText.{health_line}
use Rattle.kp_health_defs.specs.declared.health.Health.{Health}
use Rattle.kp_health.proofs.KnownAnswers.{known_values}
use Rattle.kp_health.proofs.answers.HealthCounts.push_lines.Goals as goal

pub returns-clause-added : goal.returns-clause-added
returns-clause-added c config o known =
    on_ok_weaker c.push_lines.result (λ is.
    is
    ∙ ap (λ (hs : List Health). string_bytes c.args.text.now ++ flat_map health_line hs)
    (ap (map (λ h. h.now)) c.as_slice.ensures.value ∙ c.in_ok-healths.ensures
    ∙ known_values config o c.args.self.now known)) c.push_lines.ensures.added
