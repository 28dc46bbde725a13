use Rattle.kp_types.specs.declared.slice.Slice.{Slice}
use Rattle.kp_store.proofs.OwnObjects.{of_taken}
use Rattle.kp_controller.proofs.slice_map.SliceMap.take.Goals as goal

pub invariant_of-self : goal.invariant_of-self
invariant_of-self c = of_taken (λ (s : Slice). s.key) c.take.result _ _ _ c.take.ensures.ok c.take.ensures.err c.self.invariant
