use Rattle.std.proofs.Common.{◌∙◌}
use Rattle.kp_objects.proofs.Families.{once_step}
use Rattle.kp_objects.proofs.service.families.once_each.Goals as goal

pub loop-family-preserved : goal.loop-family-preserved
loop-family-preserved c =
    c.in_ok-add_once.ensures.ok
    ∙ once_step c.args.families.now c.loop-family.family-index _ c.loop-family.found.items c.loop-family-test.true c.loop-family.invariant
