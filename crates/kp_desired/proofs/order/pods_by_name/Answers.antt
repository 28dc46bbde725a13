use Rattle.std.proofs.Common.{cond, ap, sym, ◌∙◌}
use Rattle.std.specs.FinMap.{put}
use Rattle.kp_base.specs.Keys.{key_cmp}
use Rattle.kp_object_defs.specs.Desired.{selects}
use Rattle.kp_desired.proofs.PodNames.{by_key-filter}
use Rattle.kp_desired.proofs.order.pods_by_name.Goals as goal

pub loop-pod-preserved : goal.loop-pod-preserved
loop-pod-preserved c =
    let pod = c.pod-item.result in
    c.in_ok-add_pod.ensures
    ∙ ap (λ entries. cond (selects c.args.service.now pod) (put key_cmp pod.key pod entries) entries) c.loop-pod.invariant
    ∙ sym (by_key-filter key_cmp (λ p. p.key) (selects c.args.service.now) c.args.pods.now c.loop-pod.pod-index pod c.loop-pod-test.true c.pod-item.is)
