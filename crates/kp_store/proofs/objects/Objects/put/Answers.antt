use Rattle.std.proofs.Common.{sym, ap, ◌∙◌}
use Rattle.kp_types.specs.declared.pod.Node.{Node}
use Rattle.kp_types.specs.declared.pod.Pod.{Pod}
use Rattle.kp_types.specs.declared.service.Service.{Service}
use Rattle.kp_types.specs.declared.slice.Slice.{Slice}
use Rattle.kp_object_defs.specs.Objects.{node_key}
use Rattle.kp_store.proofs.OwnObjects.{of_put, with_services, with_slices, with_pods, with_nodes}
use Rattle.kp_store.proofs.objects.Objects.put.Goals as goal

pub invariant_of-self-in-Service : goal.invariant_of-self-in-Service
invariant_of-self-in-Service c =
    let own_key = ap (λ (x : Service). x.key) (c.get.ensures ∙ sym c.in_ok-copy-in-Service.ensures) in
    with_services _ c.self.invariant _ (of_put (λ (x : Service). x.key) c.put.result _ _ _ _ c.put.ensures.ok c.put.ensures.err own_key c.self.invariant.services)

pub invariant_of-self-in-EndpointSlice : goal.invariant_of-self-in-EndpointSlice
invariant_of-self-in-EndpointSlice c =
    let own_key = ap (λ (x : Slice). x.key) (c.get-in-EndpointSlice.ensures ∙ sym c.in_ok-copy-in-EndpointSlice.ensures) in
    with_slices _ c.self.invariant _ (of_put (λ (x : Slice). x.key) c.put-in-EndpointSlice.result _ _ _ _ c.put-in-EndpointSlice.ensures.ok c.put-in-EndpointSlice.ensures.err own_key c.self.invariant.slices)

pub invariant_of-self-in-Pod : goal.invariant_of-self-in-Pod
invariant_of-self-in-Pod c =
    let own_key = ap (λ (x : Pod). x.key) (c.get-in-Pod.ensures ∙ sym c.in_ok-copy-in-Pod.ensures) in
    with_pods _ c.self.invariant _ (of_put (λ (x : Pod). x.key) c.put-in-Pod.result _ _ _ _ c.put-in-Pod.ensures.ok c.put-in-Pod.ensures.err own_key c.self.invariant.pods)

pub invariant_of-self-in-Node : goal.invariant_of-self-in-Node
invariant_of-self-in-Node c =
    let own_key = ap node_key (c.in_ok-copy-in-Node.ensures ∙ ap (λ (x : Node). x.name) (c.get-in-Node.ensures ∙ sym c.in_ok-copy-in-Node-2.ensures)) in
    with_nodes _ c.self.invariant _ (of_put (λ (x : Node). node_key x.name) c.put-in-Node.result _ _ _ _ c.put-in-Node.ensures.ok c.put-in-Node.ensures.err own_key c.self.invariant.nodes)
