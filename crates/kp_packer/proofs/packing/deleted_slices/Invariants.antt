-- The slices so far that were emptied.
use Rattle.std.proofs.Common.{◌≡◌, ◌++◌, map, not, take}
use Rattle.std.specs.List.{filter}
use Rattle.kp_object_defs.specs.Packing as spec
use Rattle.kp_packer.specs.Views.{shown, filling_of}
use Rattle.kp_packer.proofs.packing.deleted_slices.Given as goal

abbrev pub invariant-loop-fill : goal.invariant-loop-fill
invariant-loop-fill l =
    shown l.deleted.items
    ≡ shown l.fn.left_over.items ++ map (λ f. f.slice) (filter (λ f. not (spec.stays f)) (map filling_of (take l.fill-index l.fills)))
