use Rattle.kp_types.specs.declared.pod.Node.{Node}
use Rattle.kp_types.specs.declared.pod.Pod.{Pod}
use Rattle.kp_types.specs.declared.service.Service.{Service}
use Rattle.kp_types.specs.declared.slice.Slice.{Slice}
use Rattle.kp_object_defs.specs.Objects.{node_key}
use Rattle.kp_store.proofs.OwnObjects.{of_removed, of_taken, with_services, with_slices, with_pods, with_nodes}
use Rattle.kp_store.proofs.objects.Objects.take.Goals as goal

pub invariant_of-self : goal.invariant_of-self
invariant_of-self c =
    with_services _ c.self.invariant _ (of_taken (λ (x : Service). x.key) c.take.result _ _ _ c.take.ensures.ok c.take.ensures.err c.self.invariant.services)

pub invariant_of-self-in-EndpointSlice : goal.invariant_of-self-in-EndpointSlice
invariant_of-self-in-EndpointSlice c =
    with_slices _ c.self.invariant _ (of_taken (λ (x : Slice). x.key) c.take-in-EndpointSlice.result _ _ _ c.take-in-EndpointSlice.ensures.ok c.take-in-EndpointSlice.ensures.err c.self.invariant.slices)

pub invariant_of-self-in-Pod : goal.invariant_of-self-in-Pod
invariant_of-self-in-Pod c =
    with_pods _ c.self.invariant _ (of_taken (λ (x : Pod). x.key) c.take-in-Pod.result _ _ _ c.take-in-Pod.ensures.ok c.take-in-Pod.ensures.err c.self.invariant.pods)

pub invariant_of-self-in-Node : goal.invariant_of-self-in-Node
invariant_of-self-in-Node c =
    with_nodes _ c.self.invariant _ (of_removed (λ (x : Node). node_key x.name) _ _ _ c.take-in-Node.ensures c.self.invariant.nodes)
