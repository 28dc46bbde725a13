use Rattle.std.proofs.Common.{◌≡◌, replicate}
use Rattle.std.specs.Int.NonZero.{non_zero_usize_get}
use Rattle.kp_recent.specs.Held.{no_sources}
use Rattle.kp_recent.proofs.lists.empty_lists.Given as goal

abbrev pub invariant-loop-place : goal.invariant-loop-place
invariant-loop-place l = l.lists.items ≡ replicate l._place (no_sources (non_zero_usize_get l.size))
