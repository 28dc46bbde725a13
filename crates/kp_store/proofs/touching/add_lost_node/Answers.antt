use Rattle.std.proofs.Common.{Option, option_copied, sym, ap, Bor}
use Rattle.kp_types.specs.declared.pod.Node.{Node}
use Rattle.kp_touch_defs.specs.Touches.{lost_node_touches}
use Rattle.kp_store.proofs.Adding.{by_same, none_added}
use Rattle.kp_store.proofs.touching.add_lost_node.Goals as goal

pub returns-in-Some : goal.returns-in-Some
returns-in-Some c =
    let config = c.args.config.now in
    let by = lost_node_touches config.node config.controller c.args.objects.now in
    by_same c.add_by_zone.result c.args.touched.now c.add_by_zone.new.touched
    (λ (n : Option (Bor Node)). by (option_copied n)) (sym c.in-Some.is) c.add_by_zone.ensures

pub returns-in-None : goal.returns-in-None
returns-in-None c =
    let config = c.args.config.now in
    let by = lost_node_touches config.node config.controller c.args.objects.now in
    none_added c.args.touched.now (by (option_copied c.args.node)) (λ k.
    ap (λ (n : Option (Bor Node)). by (option_copied n) k) c.in-None.is)
