use Rattle.std.proofs.Common.{◌&&◌, Bool, not, bytes_eq, option_copied, sym, ap, ◌∙◌}
use Rattle.std.specs.Option.{option_eq}
use Rattle.kp_object_defs.specs.Objects.{zone_of}
use Rattle.kp_touch_defs.specs.Touches.{zone_touches}
use Rattle.kp_store.proofs.Adding.{by_same, none_added}
use Rattle.kp_store.proofs.touching.add_by_zone.Goals as goal

pub returns-then-is_same_zone : goal.returns-then-is_same_zone
returns-then-is_same_zone c =
    let config = c.args.config.now in
    let o = c.args.objects.now in
    let name = c.args.name.now in
    let zone = option_copied c.args.zone in
    let touches = zone_touches config.node config.controller o name in
    none_added c.args.touched.now (λ k. not (option_eq bytes_eq (zone_of o name) zone) && touches k)
    (λ k. ap (λ b. not b && touches k)
    (ap (λ z. option_eq bytes_eq z zone) (sym c.zone_of.ensures)
    ∙ sym c.is_same_zone.ensures ∙ c.if-is_same_zone.true))

pub returns-else-is_same_zone : goal.returns-else-is_same_zone
returns-else-is_same_zone c =
    let config = c.args.config.now in
    let o = c.args.objects.now in
    let name = c.args.name.now in
    let touches = zone_touches config.node config.controller o name in
    by_same c.add_of_node.result c.args.touched.now c.add_of_node.new.touched
    (λ (b : Bool) k. not b && touches k)
    (sym c.if-is_same_zone.false ∙ c.is_same_zone.ensures
    ∙ ap (λ z. option_eq bytes_eq z (option_copied c.args.zone)) c.zone_of.ensures)
    c.add_of_node.ensures
