-- What the slices so far keep.
use Rattle.std.proofs.Common.{◌≡◌, take}
use Rattle.kp_object_defs.specs.Packing as spec
use Rattle.kp_packer.specs.Views.{shown, left_in, progress_of, AtOwnPlaces}
use Rattle.kp_packer.proofs.keep.keep_all.Given as goal

abbrev pub invariant-loop-slice : goal.invariant-loop-slice
invariant-loop-slice l = record {
  kept : progress_of l.fills.items (left_in l.left.places.items)
      ≡ spec.keep_all l.most (shown (take l.slice-index l.slices)) (left_in l.fn.left.places.items);
  own : AtOwnPlaces l.left.by_pod.entries l.left.places.items;
}
