use Rattle.std.proofs.Common.{◌≡◌, ◌≤◌, length}
use Rattle.indexmap.specs.IndexMap.{spare}
use Rattle.kp_vmap_defs.specs.declared.door.Destination.{Destination}
use Rattle.kp_vmap.specs.Places.{staged_at}
use Rattle.kp_vmap.proofs.keep.keep_all.Given as goal

-- what is kept, with the staged ports that are left, is what all of them make
abbrev pub invariant-loop-at : goal.invariant-loop-at
invariant-loop-at l = record {
  places :
      (d : Destination)
      → staged_at l.places.entries l.staged.entries d
      ≡ staged_at l.fn.places.entries l.fn.staged.entries d;
  room : length l.staged.entries ≤ spare l.places;
}

abbrev pub decreases-loop-at : goal.decreases-loop-at
decreases-loop-at l = length l.staged.entries
