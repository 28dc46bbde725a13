use Rattle.std.proofs.Common.{map, ap, ◌∙◌}
use Rattle.kp_health.proofs.KnownAnswers.{touched_made}
use Rattle.kp_health.proofs.answers.HealthCounts.update.Goals as goal

pub returns-in_ok-make_each-clause-ok : goal.returns-in_ok-make_each-clause-ok
returns-in_ok-make_each-clause-ok c known =
    touched_made c.args.config.now c.args.objects.now c.args.self.now c.make_each.new.self
    c.args.touched.now (map (λ q. q.now) c.as_slice.result.now) c.if-touched.false
    (ap (map (λ q. q.now)) c.as_slice.ensures.value ∙ c.in_ok-keys.ensures) known
    c.in_ok-make_each.ensures.made c.in_ok-make_each.ensures.kept
