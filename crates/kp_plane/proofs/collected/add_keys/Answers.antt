use Rattle.std.proofs.Common.{◌||◌, map, refl, ap, ◌∙◌, Bor}
use Rattle.std.proofs.lemmas.List.{take_all}
use Rattle.std.specs.List.{list_any}
use Rattle.std.specs.Ordering.{eq_by_cmp}
use Rattle.kp_base.specs.Keys.{key_cmp}
use Rattle.kp_base.specs.declared.key.ObjectKey.{ObjectKey}
use Rattle.kp_store.specs.Touched.{is_touched}
use Rattle.kp_store.specs.declared.touched.Touched.{Touched}
use Rattle.kp_store.proofs.Unions.{any_shown, more_beside}
use Rattle.kp_plane.proofs.Collecting.{some_added}
use Rattle.kp_plane.proofs.collected.add_keys.Goals as goal

pub loop-key-init : goal.loop-key-init
loop-key-init c = λ k. refl

pub loop-key-preserved : goal.loop-key-preserved
loop-key-preserved c = λ k.
    c.in_ok-add.ensures.ok k
    ∙ (λ i. eq_by_cmp key_cmp k (c.in_ok-copy.ensures i) || c.loop-key.invariant k i)
    ∙ more_beside (λ (q : Bor ObjectKey). eq_by_cmp key_cmp k q.now) c.args.keys.now
    c.loop-key.key-index c.key-item.result (is_touched c.args.touched.now k) c.loop-key-test.true
    c.key-item.is

pub returns-clause-ok : goal.returns-clause-ok
returns-clause-ok c = λ k.
    let test = λ (q : Bor ObjectKey). eq_by_cmp key_cmp k q.now in
    let old = is_touched c.args.touched.now k in
    c.loop-key.invariant k
    ∙ ap (λ ks. list_any test ks || old)
    (take_all c.loop-key.key-index c.args.keys.now c.loop-key-test.false)
    ∙ ap (λ b. b || old)
    (any_shown (λ (q : Bor ObjectKey). q.now) (eq_by_cmp key_cmp k) c.args.keys.now)

pub returns-clause-few : goal.returns-clause-few
returns-clause-few c =
    some_added c.args.keys.now c.loop-key.key-index c.args.touched.now c.loop-key.touched
    c.loop-key.invariant

pub returns-in_err-copy-clause-few : goal.returns-in_err-copy-clause-few
returns-in_err-copy-clause-few c =
    some_added c.args.keys.now c.loop-key.key-index c.args.touched.now c.loop-key.touched
    c.loop-key.invariant

pub returns-in_err-add-clause-few : goal.returns-in_err-add-clause-few
returns-in_err-add-clause-few c = λ k.
    let keys = c.args.keys.now in
    ap (λ (t : Touched). list_any (eq_by_cmp key_cmp k) (map (λ q. q.now) keys) || is_touched t k)
    c.in_err-add.ensures.err
    ∙ some_added keys c.loop-key.key-index c.args.touched.now c.loop-key.touched
    c.loop-key.invariant k
