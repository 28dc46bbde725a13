use Rattle.kp_types.specs.declared.slice.Slice.{Slice}
use Rattle.kp_store.proofs.OwnObjects.{of_none, of_same}
use Rattle.kp_controller.proofs.slice_map.SliceMap.new.Goals as goal

pub invariant_of-result : goal.invariant_of-result
invariant_of-result c = of_same (λ (s : Slice). s.key) _ _ c.new.ensures (of_none (λ (s : Slice). s.key))
