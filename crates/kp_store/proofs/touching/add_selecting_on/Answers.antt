use Rattle.std.proofs.Common.{◌||◌, List, Some, refl, ap, ◌∙◌, Bor}
use Rattle.std.proofs.lemmas.List.{take_all}
use Rattle.std.specs.List.{list_any}
use Rattle.kp_types.specs.declared.pod.Pod.{Pod}
use Rattle.kp_touch_defs.specs.Touches.{is_selected}
use Rattle.kp_store.specs.Touched.{is_touched}
use Rattle.kp_store.proofs.Unions.{any_shown, more_beside}
use Rattle.kp_store.proofs.touching.add_selecting_on.Goals as goal

pub loop-pod-init : goal.loop-pod-init
loop-pod-init c = λ k. refl

pub loop-pod-preserved : goal.loop-pod-preserved
loop-pod-preserved c = λ k.
    let selected = λ (p : Bor Pod). is_selected c.args.objects.now (Some p.now) k in
    c.in_ok-add_selecting_one.ensures k
    ∙ ap (λ b. selected c.pod-item.result || b) (c.loop-pod.invariant k)
    ∙ more_beside selected c.as_slice-pod-items.result.now c.loop-pod.pod-index c.pod-item.result
    (is_touched c.args.touched.now k) c.loop-pod-test.true c.pod-item.is

pub returns : goal.returns
returns c = λ k.
    let test = λ (p : Pod). is_selected c.args.objects.now (Some p) k in
    let items = c.as_slice-pod-items.result.now in
    let old = is_touched c.args.touched.now k in
    c.loop-pod.invariant k
    ∙ ap (λ (ps : List (Bor Pod)). list_any (λ p. test p.now) ps || old)
    (take_all c.loop-pod.pod-index items c.loop-pod-test.false ∙ c.as_slice-pod-items.ensures.value)
    ∙ ap (λ b. b || old)
    (any_shown (λ (p : Bor Pod). p.now) test c.in_ok-pods.pods.items
    ∙ ap (list_any test) c.in_ok-pods.ensures)
