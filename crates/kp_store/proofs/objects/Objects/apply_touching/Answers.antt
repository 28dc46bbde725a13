use Rattle.std.proofs.Common.{◌≡◌, ◌↔◌, false, refl, sym, subst}
use Rattle.kp_object_defs.specs.Objects.{objects_step}
use Rattle.kp_touch_defs.specs.Touches.{touches}
use Rattle.kp_store.specs.Touched.{is_touched}
use Rattle.kp_store.proofs.Adding.{as_well, still}
use Rattle.kp_store.proofs.objects.Objects.apply_touching.Goals as goal

pub returns-in_ok-apply-clause-changed : goal.returns-in_ok-apply-clause-changed
returns-in_ok-apply-clause-changed c =
    let old = c.args.self.now in
    subst (λ b. (b ≡ false) ↔ (objects_step old c.args.event.now ≡ old)) c.if-changes.true
    c.changes.ensures

pub returns-in_ok-apply-clause-adds : goal.returns-in_ok-apply-clause-adds
returns-in_ok-apply-clause-adds c =
    let config = c.args.config.now in
    as_well c.args.touched.now c.join.new.self (is_touched c.in_ok-new.new) c.in_ok-join.ensures.ok
    (touches config.node config.controller c.args.self.now c.args.event.now) c.in_ok-new.ensures

pub returns-in_err-apply-clause-stay : goal.returns-in_err-apply-clause-stay
returns-in_err-apply-clause-stay c =
    still c.args.touched.now c.join.new.self (is_touched c.in_ok-new.new) c.in_ok-join.ensures.ok
    c.from_residual-in_err-apply.result

pub returns-else-changes-clause-changed : goal.returns-else-changes-clause-changed
returns-else-changes-clause-changed c =
    let old = c.args.self.now in
    subst (λ b. (b ≡ false) ↔ (objects_step old c.args.event.now ≡ old)) c.if-changes.false
    c.changes.ensures

pub returns-else-changes-clause-ok : goal.returns-else-changes-clause-ok
returns-else-changes-clause-ok c = sym (c.changes.ensures.0 c.if-changes.false)

pub returns-else-changes-clause-adds : goal.returns-else-changes-clause-adds
returns-else-changes-clause-adds c = λ k. refl
