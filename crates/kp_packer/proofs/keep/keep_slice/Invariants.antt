-- What the slice keeps of the entries so far.
use Rattle.std.proofs.Common.{◌≡◌, [], false, take, fold}
use Rattle.kp_object_defs.specs.Packing as spec
use Rattle.kp_packer.specs.Views.{left_in, keeping_of, AtOwnPlaces}
use Rattle.kp_packer.proofs.keep.keep_slice.Given as goal

abbrev pub invariant-loop-entry : goal.invariant-loop-entry
invariant-loop-entry l = record {
  kept : keeping_of l.fill l.left.places.items
      ≡ fold (spec.keep_entry l.most)
      (record { filling = record { slice = l.slice; endpoints = []; is_changed = false }; left = left_in l.fn.left.places.items })
      (take l.entry-index l.entry-items);
  own : AtOwnPlaces l.left.by_pod.entries l.left.places.items;
}
