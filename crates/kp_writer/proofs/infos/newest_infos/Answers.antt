use Rattle.std.proofs.Common.{◌++◌, ◌∙◌}
use Rattle.std.specs.FinMap.{get}
use Rattle.std.specs.Option.{option_to_list}
use Rattle.kp_desired.proofs.Steps.{filter_map_now_step}
use Rattle.kp_writer.specs.Written.{newest_in}
use Rattle.kp_writer.proofs.infos.newest_infos.Goals as goal

-- one port more
pub loop-key-preserved : goal.loop-key-preserved
loop-key-preserved c =
    c.in_ok-add_if.ensures
    ∙ (λ i. c.loop-key.invariant i ++ option_to_list (c.newest.ensures i))
    ∙ filter_map_now_step (get (newest_in c.args.ports.now)) c.args.keys.now
    c.loop-key.key-index c.key-item.result c.loop-key-test.true c.key-item.is
