-- New slices were made of the first endpoints.
use Rattle.std.proofs.Common.{◌≤◌, ◌-◌, map, drop, length}
use Rattle.kp_packer.specs.Views.{shown, IsChunked}
use Rattle.kp_packer.proofs.place.full_chunks.Given as goal

abbrev pub invariant-loop-used : goal.invariant-loop-used
invariant-loop-used l = record {
  used : l.used ≤ length l.left;
  made : IsChunked l.most (shown l.left) (map (λ v. shown v.items) l.made.items) (shown (drop l.used l.left));
}

abbrev pub decreases-loop-used : goal.decreases-loop-used
decreases-loop-used l = length l.left - l.used
