use Rattle.std.proofs.Common.{sym, ap, subst, ◌∙◌}
use Rattle.std.specs.FinMap.{get, insert}
use Rattle.kp_health.specs.Known.{AreNewer}
use Rattle.kp_health.proofs.KnownAnswers.{put_kept, put_made, put_newer}
use Rattle.kp_health.proofs.KnownAnswers.{take_kept, take_made, take_newer}
use Rattle.kp_health.proofs.answers.HealthCounts.make.Goals as goal

pub returns-in_ok-put-in-Some-clause-made : goal.returns-in_ok-put-in-Some-clause-made
returns-in_ok-put-in-Some-clause-made c =
    let key = c.args.key.now in
    let old = c.args.self.now in
    let health = c.in-Some.health in
    ap (λ m. get m key) (c.in_ok-put-in-Some.ensures.ok
    ∙ ap (λ k. insert old k health) c.in_ok-copy-in-Some.ensures)
    ∙ put_made c.args.config.now c.args.objects.now old key health
    (sym c.in-Some.is ∙ c.in_ok-health.ensures)

pub returns-in_ok-put-in-Some-clause-kept : goal.returns-in_ok-put-in-Some-clause-kept
returns-in_ok-put-in-Some-clause-kept c k known =
    let key = c.args.key.now in
    let old = c.args.self.now in
    let health = c.in-Some.health in
    ap (λ m. get m k) (c.in_ok-put-in-Some.ensures.ok
    ∙ ap (λ q. insert old q health) c.in_ok-copy-in-Some.ensures)
    ∙ put_kept c.args.config.now c.args.objects.now old key health
    (sym c.in-Some.is ∙ c.in_ok-health.ensures) k known

pub returns-in-None-clause-made : goal.returns-in-None-clause-made
returns-in-None-clause-made c =
    ap (λ m. get m c.args.key.now) c.take.ensures
    ∙ take_made c.args.config.now c.args.objects.now c.args.self.now c.args.key.now
    (sym c.in-None.is ∙ c.in_ok-health.ensures)

pub returns-in-None-clause-kept : goal.returns-in-None-clause-kept
returns-in-None-clause-kept c k known =
    ap (λ m. get m k) c.take.ensures
    ∙ take_kept c.args.config.now c.args.objects.now c.args.self.now c.args.key.now
    (sym c.in-None.is ∙ c.in_ok-health.ensures) k known

pub returns-in_ok-put-in-Some-clause-newer : goal.returns-in_ok-put-in-Some-clause-newer
returns-in_ok-put-in-Some-clause-newer c =
    let old = c.args.self.now in
    let health = c.in-Some.health in
    subst (AreNewer c.args.config.now c.args.objects.now old)
    (sym (c.in_ok-put-in-Some.ensures.ok
    ∙ ap (λ q. insert old q health) c.in_ok-copy-in-Some.ensures))
    (put_newer c.args.config.now c.args.objects.now old c.args.key.now health
    (sym c.in-Some.is ∙ c.in_ok-health.ensures))

pub returns-in-None-clause-newer : goal.returns-in-None-clause-newer
returns-in-None-clause-newer c =
    subst (AreNewer c.args.config.now c.args.objects.now c.args.self.now) (sym c.take.ensures)
    (take_newer c.args.config.now c.args.objects.now c.args.self.now c.args.key.now
    (sym c.in-None.is ∙ c.in_ok-health.ensures))
