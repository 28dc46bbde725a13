-- The new slices so far were added.
use Rattle.std.proofs.Common.{◌≡◌, ◌++◌, map}
use Rattle.kp_packer.specs.Views.{shown, new_slice_of}
use Rattle.kp_packer.proofs.packing.add_made.Given as goal

abbrev pub invariant-loop-wanted : goal.invariant-loop-wanted
invariant-loop-wanted l =
    map new_slice_of l.slices.items
    ≡ map new_slice_of l.fn.slices.items ++ map (λ more. record { ports = l.ports.items; wanted = more }) (map (λ v. shown v.items) l.yielded)
