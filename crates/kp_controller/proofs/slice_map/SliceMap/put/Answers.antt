use Rattle.std.proofs.Common.{ap, ◌∙◌}
use Rattle.kp_types.specs.declared.slice.Slice.{Slice}
use Rattle.kp_store.proofs.OwnObjects.{of_put}
use Rattle.kp_controller.proofs.slice_map.SliceMap.put.Goals as goal

pub invariant_of-self : goal.invariant_of-self
invariant_of-self c =
    let own_key = c.in_ok-key.ensures ∙ ap (λ (s : Slice). s.key) c.get.ensures in
    of_put (λ (s : Slice). s.key) c.put.result _ _ _ _ c.put.ensures.ok c.put.ensures.err own_key c.self.invariant
