use Rattle.std.proofs.Common.{◌++◌, ◌∙◌}
use Rattle.std.specs.FinMap as finite
use Rattle.std.specs.Option.{option_to_list}
use Rattle.kp_desired.proofs.Steps.{filter_map_now_step}
use Rattle.kp_controller.proofs.services.services_at.Goals as goal

pub loop-key-preserved : goal.loop-key-preserved
loop-key-preserved c =
    c.in_ok-add_found.ensures
    ∙ (λ i. c.loop-key.invariant i ++ option_to_list (c.service.ensures i))
    ∙ filter_map_now_step (finite.get c.args.objects.now.services) c.args.keys.now
    c.loop-key.key-index c.key-item.result c.loop-key-test.true c.key-item.is
