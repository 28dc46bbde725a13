use Rattle.kp_object_defs.specs.Objects.{node_key}
use Rattle.kp_store.proofs.OwnObjects.{of_none, of_same}
use Rattle.kp_store.proofs.objects.Objects.new.Goals as goal

pub invariant_of-result : goal.invariant_of-result
invariant_of-result c = record {
  services = of_same (λ x. x.key) _ _ c.new.ensures (of_none (λ x. x.key));
  slices = of_same (λ x. x.key) _ _ c.new-2.ensures (of_none (λ x. x.key));
  pods = of_same (λ x. x.key) _ _ c.new-3.ensures (of_none (λ x. x.key));
  nodes = of_same (λ x. node_key x.name) _ _ c.new-4.ensures (of_none (λ x. node_key x.name));
}
