use Rattle.std.proofs.Common.{ap, ◌∙◌}
use Rattle.kp_base.specs.Keys.{port_key_cmp}
use Rattle.kp_choice_defs.specs.Settings.{settings_of}
use Rattle.kp_object_defs.specs.Order.{rises}
use Rattle.kp_bench.proofs.mapping.map_of.Goals as goal

pub replaced-requires-clause-in_order : goal.replaced-requires-clause-in_order
replaced-requires-clause-in_order c =
    ap (rises port_key_cmp) (c.as_slice.ensures ∙ c.in_ok-dirty.ensures)
    ∙ c.changed_ports.ensures.in_order (settings_of c.in_ok-config.config)
    c.in_ok-none.none c.in_ok-objects.objects
