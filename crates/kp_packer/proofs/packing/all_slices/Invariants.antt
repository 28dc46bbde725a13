-- The slices so far that stay.
use Rattle.std.proofs.Common.{◌≡◌, map, take}
use Rattle.std.specs.List.{filter}
use Rattle.kp_object_defs.specs.Packing as spec
use Rattle.kp_packer.specs.Views.{filling_of}
use Rattle.kp_packer.proofs.packing.all_slices.Given as goal

abbrev pub invariant-loop-fill : goal.invariant-loop-fill
invariant-loop-fill l = l.all.items ≡ map spec.filled_slice (filter spec.stays (map filling_of (take l.fill-index l.fills)))
