-- The new slices so far, and those to come.
use Rattle.std.proofs.Common.{◌≡◌, ◌++◌, map, drop}
use Rattle.std.specs.List.{zip}
use Rattle.kp_object_defs.specs.Packing as spec
use Rattle.kp_packer.specs.Views.{new_slice_of}
use Rattle.kp_packer.proofs.names.new_slices.Given as goal

abbrev pub invariant-loop-place : goal.invariant-loop-place
invariant-loop-place l =
    l.slices.items ++ map (spec.new_slice l.family l.service) (zip (drop l.place l.names.items) (map new_slice_of (drop l.place l.made)))
    ≡ map (spec.new_slice l.family l.service) (zip l.names.items (map new_slice_of l.made))
