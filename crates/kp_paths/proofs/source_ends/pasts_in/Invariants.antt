use Rattle.std.proofs.Common.{◌≡◌, take}
use Rattle.kp_paths.specs.SourceEnds as ends
use Rattle.kp_paths.proofs.source_ends.pasts_in.Given as goal

-- those of the ranges so far
abbrev pub invariant-loop-range : goal.invariant-loop-range
invariant-loop-range l = l.pasts.items ≡ ends.pasts_in l.family (take l.range-index l.ranges)
