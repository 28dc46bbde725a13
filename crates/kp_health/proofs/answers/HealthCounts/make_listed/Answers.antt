use Rattle.std.proofs.Common.{◌≡◌, ◌++◌, ◌∷◌, ◌+◌, [], take, sym, ap, ◌∙◌}
use Rattle.std.specs.List.{list_any}
use Rattle.std.specs.Ordering.{eq_by_cmp}
use Rattle.std.proofs.lemmas.List.{take_more}
use Rattle.kp_base.specs.Keys.{key_cmp}
use Rattle.kp_health.proofs.KnownAnswers.{newer_on, one_more}
use Rattle.kp_health.proofs.answers.HealthCounts.make_listed.Goals as goal

pub loop-service-preserved : goal.loop-service-preserved
loop-service-preserved c =
    let services = c.args.services.now in
    let i = c.loop-service.service-index in
    let key = c.service-item.result in
    let next : take i services ++ key ∷ [] ≡ take (i + 1) services =
    ap (λ q. take i services ++ q ∷ []) c.service-item.is
    ∙ sym (take_more services i key c.loop-service-test.true) in
    record {
      made = λ k among. one_more c.args.config.now c.args.objects.now c.loop-service.self
          c.make.new.self (take i services) key c.loop-service.invariant.made
          c.in_ok-make.ensures.made c.in_ok-make.ensures.kept k
          (ap (list_any (eq_by_cmp key_cmp k)) next ∙ among);
      kept = λ k known. c.in_ok-make.ensures.kept k (c.loop-service.invariant.kept k known);
      newer = newer_on c.args.config.now c.args.objects.now c.args.self.now c.loop-service.self
          c.make.new.self c.loop-service.invariant.newer c.make.ensures.newer;
    }

pub returns-in_err-make-clause-newer : goal.returns-in_err-make-clause-newer
returns-in_err-make-clause-newer c =
    newer_on c.args.config.now c.args.objects.now c.args.self.now c.loop-service.self
    c.make.new.self c.loop-service.invariant.newer c.make.ensures.newer
