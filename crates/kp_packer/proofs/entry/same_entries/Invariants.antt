-- Whether all entries say the same is whether those do that are left.
use Rattle.std.proofs.Common.{◌≡◌, drop, length}
use Rattle.std.specs.Cmp.Lexicographic.{pointwise}
use Rattle.kp_object_defs.specs.Packing.{same_entry}
use Rattle.kp_packer.specs.Views.{shown}
use Rattle.kp_packer.proofs.entry.same_entries.Given as goal

abbrev pub invariant-loop-place : goal.invariant-loop-place
invariant-loop-place l = record {
  lengths : length l.before ≡ length l.now;
  rest : pointwise same_entry l.before (shown l.now) ≡ pointwise same_entry (drop l.place l.before) (shown (drop l.place l.now));
}
