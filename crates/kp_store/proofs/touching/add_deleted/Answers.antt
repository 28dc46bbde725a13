use Rattle.std.proofs.Common.{None, sym}
use Rattle.kp_types.specs.declared.event.Kind.{Kind}
use Rattle.kp_touch_defs.specs.Touches as spec
use Rattle.kp_store.proofs.Adding.{by_same}
use Rattle.kp_store.proofs.touching.add_deleted.Goals as goal

pub returns-in_ok-copy-in-Service : goal.returns-in_ok-copy-in-Service
returns-in_ok-copy-in-Service c =
    let config = c.args.config.now in
    let o = c.args.objects.now in
    let r = c.add.result in
    let old = c.args.touched.now in
    let new = c.add.new.self in
    let touches = spec.delete_touches config.node config.controller o in
    by_same r old new (λ (of : Kind). touches of c.args.key.now) (sym c.in-Service.is)
    (by_same r old new spec.is_key c.in_ok-copy-in-Service.ensures c.add.ensures.ok)

pub returns-in-EndpointSlice : goal.returns-in-EndpointSlice
returns-in-EndpointSlice c =
    let config = c.args.config.now in
    let o = c.args.objects.now in
    let r = c.add_named.result in
    let old = c.args.touched.now in
    let new = c.add_named.new.touched in
    let touches = spec.delete_touches config.node config.controller o in
    by_same r old new (λ (of : Kind). touches of c.args.key.now) (sym c.in-EndpointSlice.is)
    (by_same r old new (λ before. spec.slice_touches before None) c.slice.ensures
    c.add_named.ensures)

pub returns-in-Pod : goal.returns-in-Pod
returns-in-Pod c =
    let config = c.args.config.now in
    let o = c.args.objects.now in
    let r = c.add_selecting.result in
    let old = c.args.touched.now in
    let new = c.add_selecting.new.touched in
    let touches = spec.delete_touches config.node config.controller o in
    by_same r old new (λ (of : Kind). touches of c.args.key.now) (sym c.in-Pod.is)
    (by_same r old new (λ before. spec.pod_touches config.controller o before None) c.pod.ensures
    c.add_selecting.ensures)

pub returns-in-Node : goal.returns-in-Node
returns-in-Node c =
    let config = c.args.config.now in
    let o = c.args.objects.now in
    let r = c.add_lost_node.result in
    let old = c.args.touched.now in
    let new = c.add_lost_node.new.touched in
    let touches = spec.delete_touches config.node config.controller o in
    by_same r old new (λ (of : Kind). touches of c.args.key.now) (sym c.in-Node.is)
    (by_same r old new (spec.lost_node_touches config.node config.controller o) c.node_at.ensures
    c.add_lost_node.ensures)
