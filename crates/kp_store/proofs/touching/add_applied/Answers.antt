use Rattle.std.proofs.Common.{Some, sym, ap, ◌∙◌}
use Rattle.std.specs.FinMap as finite
use Rattle.kp_types.specs.declared.pod.Node.{Node}
use Rattle.kp_types.specs.declared.pod.Pod.{Pod}
use Rattle.kp_types.specs.declared.service.Service.{Service}
use Rattle.kp_types.specs.declared.slice.Slice.{Slice}
use Rattle.kp_touch_defs.specs.Touches as spec
use Rattle.kp_store.proofs.Adding.{by_same}
use Rattle.kp_store.proofs.touching.add_applied.Goals as goal

pub returns-in_ok-copy-in-Service : goal.returns-in_ok-copy-in-Service
returns-in_ok-copy-in-Service c =
    let config = c.args.config.now in
    let old = c.args.touched.now in
    let new = c.add.new.self in
    let by = spec.apply_touches config.node config.controller c.args.objects.now in
    let same = c.in_ok-copy-in-Service.ensures ∙ ap (λ (x : Service). x.key) c.get.ensures in
    by_same c.add.result old new by (sym c.in-Service.is)
    (by_same c.add.result old new spec.is_key same c.add.ensures.ok)

pub returns-in-EndpointSlice : goal.returns-in-EndpointSlice
returns-in-EndpointSlice c =
    let config = c.args.config.now in
    let o = c.args.objects.now in
    let r = c.add_named.result in
    let old = c.args.touched.now in
    let new = c.add_named.new.touched in
    let by = spec.apply_touches config.node config.controller o in
    let touches = λ (x : Slice). spec.slice_touches (finite.get o.slices x.key) (Some x) in
    by_same r old new by (sym c.in-EndpointSlice.is)
    (by_same r old new touches c.get-slice.ensures
    (by_same r old new (λ before. spec.slice_touches before (Some c.get-slice.result.now))
    c.slice.ensures c.add_named.ensures))

pub returns-in-Pod : goal.returns-in-Pod
returns-in-Pod c =
    let config = c.args.config.now in
    let o = c.args.objects.now in
    let r = c.add_selecting.result in
    let old = c.args.touched.now in
    let new = c.add_selecting.new.touched in
    let by = spec.apply_touches config.node config.controller o in
    let touches = spec.pod_touches config.controller o in
    by_same r old new by (sym c.in-Pod.is)
    (by_same r old new (λ (x : Pod). touches (finite.get o.pods x.key) (Some x)) c.get-pod.ensures
    (by_same r old new (λ before. touches before (Some c.get-pod.result.now)) c.pod.ensures
    c.add_selecting.ensures))

pub returns-in-Node : goal.returns-in-Node
returns-in-Node c =
    let config = c.args.config.now in
    let r = c.add_by_zone.result in
    let old = c.args.touched.now in
    let new = c.add_by_zone.new.touched in
    let by = spec.apply_touches config.node config.controller c.args.objects.now in
    let touches = spec.node_touches config.node config.controller c.args.objects.now in
    by_same r old new by (sym c.in-Node.is)
    (by_same r old new (λ (x : Node). touches x.name x.zone) c.get-node.ensures
    (by_same r old new (touches c.get-node.result.now.name) c.as_ref.ensures.value
    c.add_by_zone.ensures))
