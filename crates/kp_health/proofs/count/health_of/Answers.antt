use Rattle.std.proofs.Common.{Some, option_map, ap, ◌∙◌}
use Rattle.kp_types.specs.Setting.{table_families}
use Rattle.kp_health_defs.specs.HealthPorts.{health_with, local_count}
use Rattle.kp_health.proofs.count.health_of.Goals as goal

pub returns-in_ok-health_with-in-Some : goal.returns-in_ok-health_with-in-Some
returns-in_ok-health_with-in-Some c =
    let key = c.args.service.now.key in
    let families = table_families c.args.config.now in
    ap Some (c.in_ok-health_with-in-Some.ensures
    ∙ ap (λ n. health_with key n c.in-Some.port) (c.in_ok-count-in-Some.ensures
    ∙ (λ i. local_count (c.table_families.ensures i) (c.as_slice.ensures i))))
    ∙ ap (option_map (health_with key (local_count families c.args.per_port.now)))
    c.in-Some.ensures
