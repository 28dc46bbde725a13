use Rattle.std.proofs.Common.{◌≡◌, replicate}
use Rattle.std.specs.Int.NonZero.{non_zero_usize_get}
use Rattle.kp_recent.specs.Held.{no_sources}
use Rattle.kp_recent.proofs.lists.shelves.Given as goal

abbrev pub invariant-loop-part : goal.invariant-loop-part
invariant-loop-part l = l.shelves.items ≡ replicate l._part (no_sources (non_zero_usize_get l.size))
