use Rattle.std.proofs.Common.{ap, ◌∙◌}
use Rattle.std.specs.FinMap.{get}
use Rattle.kp_health.proofs.KnownAnswers.{all_made, none_known}
use Rattle.kp_health.proofs.answers.HealthCounts.make_all.Goals as goal

pub returns : goal.returns
returns c =
    let config = c.args.config.now in
    let o = c.args.objects.now in
    all_made config o c.make_listed.new.self c.as_slice.result.now
    (c.as_slice.ensures ∙ c.in_ok-services.ensures) c.in_ok-make_listed.ensures.made
    (λ k h. c.in_ok-make_listed.ensures.kept k
    (ap (λ m. get m k) c.requires ∙ none_known config o k h))
