use Rattle.std.proofs.Common.{◌++◌, ap, ◌∙◌}
use Rattle.std.specs.Option.{option_to_list}
use Rattle.kp_object_defs.specs.Desired.{desired_of}
use Rattle.kp_object_defs.specs.Objects.{zone_of}
use Rattle.kp_desired.proofs.Steps.{filter_map_now_step}
use Rattle.kp_store.proofs.wanted.wanted_of_pods.Goals as goal

pub loop-pod-preserved : goal.loop-pod-preserved
loop-pod-preserved c =
    let want = desired_of c.args.family (zone_of c.args.objects.now) c.args.service.now in
    c.in_ok-add_wanted.ensures
    ∙ ap (λ made. made ++ option_to_list (want c.pod-item.result.now)) c.loop-pod.invariant
    ∙ filter_map_now_step want c.args.pods.now c.loop-pod.pod-index c.pod-item.result c.loop-pod-test.true c.pod-item.is
