-- The slices so far that stay and differ.
use Rattle.std.proofs.Common.{◌≡◌, map, take}
use Rattle.std.specs.List.{filter}
use Rattle.kp_object_defs.specs.Packing as spec
use Rattle.kp_packer.specs.Views.{shown, filling_of}
use Rattle.kp_packer.proofs.packing.updated_slices.Given as goal

abbrev pub invariant-loop-fill : goal.invariant-loop-fill
invariant-loop-fill l = shown l.updated.items ≡ map (λ f. f.slice) (filter spec.is_updated (map filling_of (take l.fill-index l.fills)))
