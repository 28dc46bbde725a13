use Rattle.std.proofs.Common.{map, refl, ap, ◌∙◌, Bor}
use Rattle.std.proofs.lemmas.Result.{on_ok_weaker}
use Rattle.kp_base.specs.declared.key.ObjectKey.{ObjectKey}
use Rattle.kp_plane.proofs.Collecting.{by_all, by_all_few, listed, listed_few}
use Rattle.kp_plane.proofs.collected.add_touched.Goals as goal

pub returns-then-others-clause-ok : goal.returns-then-others-clause-ok
returns-then-others-clause-ok c =
    by_all c.args.others.now c.args.touched.now c.add_all.new.self c.if-others.true c.add_all.ensures

pub returns-then-others-clause-few : goal.returns-then-others-clause-few
returns-then-others-clause-few c =
    by_all_few c.args.others.now c.args.touched.now c.add_all.new.self c.if-others.true

pub returns-in_ok-keys-clause-ok : goal.returns-in_ok-keys-clause-ok
returns-in_ok-keys-clause-ok c =
    on_ok_weaker c.add_keys.result
    (listed c.args.others.now c.args.touched.now c.add_keys.new.touched c.deref.result.now
    c.if-others.false
    (ap (map (λ (q : Bor ObjectKey). q.now)) c.deref.ensures.value ∙ c.in_ok-keys.ensures))
    c.add_keys.ensures.ok

pub returns-in_ok-keys-clause-few : goal.returns-in_ok-keys-clause-few
returns-in_ok-keys-clause-few c =
    listed_few c.args.others.now c.args.touched.now c.add_keys.new.touched c.deref.result.now
    c.if-others.false
    (ap (map (λ (q : Bor ObjectKey). q.now)) c.deref.ensures.value ∙ c.in_ok-keys.ensures)
    c.add_keys.ensures.few

pub returns-in_err-keys-clause-few : goal.returns-in_err-keys-clause-few
returns-in_err-keys-clause-few c = λ k. refl
