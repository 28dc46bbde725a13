-- The slices of no group so far.
use Rattle.std.proofs.Common.{◌≡◌, not, take}
use Rattle.std.specs.List.{filter, list_any}
use Rattle.kp_object_defs.specs.Packing.{is_in_group}
use Rattle.kp_packer.specs.Views.{shown}
use Rattle.kp_packer.proofs.groups.left_over.Given as goal

abbrev pub invariant-loop-slice : goal.invariant-loop-slice
invariant-loop-slice l =
    shown l.over.items
    ≡ filter (λ s. not (list_any (λ g. is_in_group g.items s.ports) l.groups.keys)) (take l.slice-index l.slices)
