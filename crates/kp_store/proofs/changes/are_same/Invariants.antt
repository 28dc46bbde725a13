-- Whether all endpoints are the same is whether those are that are left.
use Rattle.std.proofs.Common.{◌≡◌, drop, length}
use Rattle.std.specs.Cmp.Lexicographic.{pointwise}
use Rattle.kp_object_defs.specs.Packing.{same_entry}
use Rattle.kp_store.proofs.changes.are_same.Given as goal

abbrev pub invariant-loop-place : goal.invariant-loop-place
invariant-loop-place l = record {
  lengths : length l.a ≡ length l.b;
  rest : pointwise same_entry l.a l.b ≡ pointwise same_entry (drop l.place l.a) (drop l.place l.b);
}
