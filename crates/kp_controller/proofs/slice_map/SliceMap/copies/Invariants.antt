-- Those so far were copied.
use Rattle.std.proofs.Common.{◌≡◌, map, take}
use Rattle.kp_controller.proofs.slice_map.SliceMap.copies.Given as goal

abbrev pub invariant-loop-slice : goal.invariant-loop-slice
invariant-loop-slice l = l.copies.items ≡ map (λ s. s.now) (take l.slice-index l.slice-items)
