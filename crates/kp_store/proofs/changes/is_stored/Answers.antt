use Rattle.std.proofs.Common.{◌≡◌, ◌↔◌, true, sym, subst, ap, ◌∙◌}
use Rattle.std.specs.FinMap as finite
use Rattle.kp_types.specs.declared.event.Object.{Object}
use Rattle.kp_types.specs.declared.pod.Node.{Node}
use Rattle.kp_types.specs.declared.pod.Pod.{Pod}
use Rattle.kp_types.specs.declared.service.Service.{Service}
use Rattle.kp_types.specs.declared.slice.Slice.{Slice}
use Rattle.kp_object_defs.specs.Objects.{node_key}
use Rattle.kp_store.specs.Unchanged.{IsStored}
use Rattle.kp_store.proofs.Unchanged.{of_found}
use Rattle.kp_store.proofs.changes.is_stored.Goals as goal

pub returns-in-Service : goal.returns-in-Service
returns-in-Service c =
    let o = c.args.objects.now in
    let same = c.get-service.ensures in
    subst (λ (x : Object). (c.is_one.result ≡ true) ↔ IsStored o x) (sym c.in-Service.is)
    (of_found (c.service.ensures ∙ ap (λ (x : Service). finite.get o.services x.key) same) same
    c.is_one.ensures)

pub returns-in-EndpointSlice : goal.returns-in-EndpointSlice
returns-in-EndpointSlice c =
    let o = c.args.objects.now in
    let same = c.get-slice.ensures in
    subst (λ (x : Object). (c.is_one-in-EndpointSlice.result ≡ true) ↔ IsStored o x)
    (sym c.in-EndpointSlice.is)
    (of_found (c.slice.ensures ∙ ap (λ (x : Slice). finite.get o.slices x.key) same) same
    c.is_one-in-EndpointSlice.ensures)

pub returns-in-Pod : goal.returns-in-Pod
returns-in-Pod c =
    let o = c.args.objects.now in
    let same = c.get-pod.ensures in
    subst (λ (x : Object). (c.is_one-in-Pod.result ≡ true) ↔ IsStored o x) (sym c.in-Pod.is)
    (of_found (c.pod.ensures ∙ ap (λ (x : Pod). finite.get o.pods x.key) same) same
    c.is_one-in-Pod.ensures)

pub returns-in-Node : goal.returns-in-Node
returns-in-Node c =
    let o = c.args.objects.now in
    let same = c.get-node.ensures in
    subst (λ (x : Object). (c.is_one-in-Node.result ≡ true) ↔ IsStored o x) (sym c.in-Node.is)
    (of_found (c.node.ensures ∙ ap (λ (x : Node). finite.get o.nodes (node_key x.name)) same) same
    c.is_one-in-Node.ensures)
