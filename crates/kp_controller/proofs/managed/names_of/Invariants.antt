-- The names so far were copied.
use Rattle.std.proofs.Common.{◌≡◌, map, take}
use Rattle.kp_controller.proofs.managed.names_of.Given as goal

abbrev pub invariant-loop-slice : goal.invariant-loop-slice
invariant-loop-slice l =
    l.names.items ≡ map (λ s. s.key.name) (map (λ s. s.now) (take l.slice-index l.slices))
