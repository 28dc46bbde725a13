use Rattle.std.proofs.Common.{◌||◌, OnErr, take, refl, sym, ap, subst, ◌∙◌}
use Rattle.std.proofs.lemmas.List.{take_all}
use Rattle.std.specs.List.{list_any}
use Rattle.std.specs.Ordering.{eq_by_cmp}
use Rattle.kp_base.specs.Keys.{key_cmp}
use Rattle.kp_touch_defs.specs.Touches.{is_key}
use Rattle.kp_store.specs.Touched.{StaysIn, is_touched}
use Rattle.kp_store.specs.declared.touched.Touched.{Touched}
use Rattle.kp_store.proofs.Adding.{still}
use Rattle.kp_store.proofs.Unions.{more_beside}
use Rattle.kp_store.proofs.touched.Touched.add_each.Goals as goal

pub loop-key-init : goal.loop-key-init
loop-key-init c = λ k. refl

pub loop-key-preserved : goal.loop-key-preserved
loop-key-preserved c = λ k.
    c.in_ok-add.ensures.ok k
    ∙ (λ i. is_key (c.in_ok-copy.ensures i) k || c.loop-key.invariant k i)
    ∙ more_beside (eq_by_cmp key_cmp k) c.args.keys.now c.loop-key.key-index c.key-item.result
    (is_touched c.args.self.now k) c.loop-key-test.true c.key-item.is

pub returns-clause-ok : goal.returns-clause-ok
returns-clause-ok c = λ k.
    c.loop-key.invariant k
    ∙ ap (λ ks. list_any (eq_by_cmp key_cmp k) ks || is_touched c.args.self.now k)
    (take_all c.loop-key.key-index c.args.keys.now c.loop-key-test.false)

pub returns-in_err-copy-clause-err : goal.returns-in_err-copy-clause-err
returns-in_err-copy-clause-err c =
    let some = take c.loop-key.key-index c.args.keys.now in
    still c.args.self.now c.loop-key.self (λ k. list_any (eq_by_cmp key_cmp k) some)
    c.loop-key.invariant c.from_residual.result

pub returns-in_err-add-clause-err : goal.returns-in_err-add-clause-err
returns-in_err-add-clause-err c =
    let some = take c.loop-key.key-index c.args.keys.now in
    let r = c.from_residual-in_err-add.result in
    subst (λ (t : Touched). OnErr r (StaysIn c.args.self.now t)) (sym c.in_err-add.ensures.err)
    (still c.args.self.now c.loop-key.self (λ k. list_any (eq_by_cmp key_cmp k) some)
    c.loop-key.invariant r)
