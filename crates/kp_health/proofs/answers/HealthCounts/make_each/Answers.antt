use Rattle.std.proofs.Common.{◌≡◌, ◌++◌, ◌∷◌, ◌+◌, [], List, map, take, sym, ap, ◌∙◌, Bor}
use Rattle.std.specs.List.{list_any}
use Rattle.std.specs.Ordering.{eq_by_cmp}
use Rattle.std.proofs.lemmas.List.{map-append, take_more}
use Rattle.kp_base.specs.Keys.{key_cmp}
use Rattle.kp_base.specs.declared.key.ObjectKey.{ObjectKey}
use Rattle.kp_health.proofs.KnownAnswers.{newer_on, one_more}
use Rattle.kp_health.proofs.answers.HealthCounts.make_each.Goals as goal

pub loop-key-preserved : goal.loop-key-preserved
loop-key-preserved c =
    let keys = c.args.keys.now in
    let shown : List (Bor ObjectKey) → List ObjectKey = map (λ q. q.now) in
    let i = c.loop-key.key-index in
    let key = c.key-item.result in
    let next : shown (take i keys) ++ key.now ∷ [] ≡ shown (take (i + 1) keys) =
    sym (map-append (λ q. q.now) (take i keys) (key ∷ []))
    ∙ ap shown (ap (λ q. take i keys ++ q ∷ []) c.key-item.is
    ∙ sym (take_more keys i key c.loop-key-test.true)) in
    record {
      made = λ k among. one_more c.args.config.now c.args.objects.now c.loop-key.self
          c.make.new.self (shown (take i keys)) key.now c.loop-key.invariant.made
          c.in_ok-make.ensures.made c.in_ok-make.ensures.kept k
          (ap (list_any (eq_by_cmp key_cmp k)) next ∙ among);
      kept = λ k known. c.in_ok-make.ensures.kept k (c.loop-key.invariant.kept k known);
      newer = newer_on c.args.config.now c.args.objects.now c.args.self.now c.loop-key.self
          c.make.new.self c.loop-key.invariant.newer c.make.ensures.newer;
    }

pub returns-in_err-make-clause-newer : goal.returns-in_err-make-clause-newer
returns-in_err-make-clause-newer c =
    newer_on c.args.config.now c.args.objects.now c.args.self.now c.loop-key.self
    c.make.new.self c.loop-key.invariant.newer c.make.ensures.newer
