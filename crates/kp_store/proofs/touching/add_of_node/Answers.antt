use Rattle.std.proofs.Common.{◌&&◌, ◌||◌, Bool, true, sym, ap, ◌∙◌}
use Rattle.kp_touch_defs.specs.Touches.{selects_on, zone_touches}
use Rattle.kp_store.proofs.Adding.{as_well, by_same, none_added}
use Rattle.kp_store.proofs.touching.add_of_node.Goals as goal

pub returns-then-eq : goal.returns-then-eq
returns-then-eq c =
    let config = c.args.config.now in
    let on = selects_on c.args.objects.now c.args.name.now in
    as_well c.args.touched.now c.add_all.new.self (λ k. true) c.add_all.ensures
    (zone_touches config.node config.controller c.args.objects.now c.args.name.now)
    (λ k. ap (λ b. b || (config.controller && on k)) (sym c.if-eq.true ∙ c.eq.ensures))

pub returns-then-config : goal.returns-then-config
returns-then-config c =
    let config = c.args.config.now in
    let on = selects_on c.args.objects.now c.args.name.now in
    let r = c.add_selecting_on.result in
    let old = c.args.touched.now in
    let new = c.add_selecting_on.new.touched in
    by_same r old new (λ (a : Bool) k. a || (config.controller && on k))
    (sym c.if-eq.false ∙ c.eq.ensures)
    (by_same r old new (λ (b : Bool) k. b && on k) (sym c.if-config.true)
    c.add_selecting_on.ensures)

pub returns-else-config : goal.returns-else-config
returns-else-config c =
    let config = c.args.config.now in
    let on = selects_on c.args.objects.now c.args.name.now in
    none_added c.args.touched.now
    (zone_touches config.node config.controller c.args.objects.now c.args.name.now)
    (λ k. ap (λ a. a || (config.controller && on k)) (sym c.eq.ensures ∙ c.if-eq.false)
    ∙ ap (λ b. b && on k) c.if-config.false)
