use Rattle.std.proofs.Common.{◌≤◌, length}
use Rattle.kp_io.proofs.chunk.end_of_lines.Given as goal

-- no line feed is looked for past the end
abbrev pub invariant-loop-end : goal.invariant-loop-end
invariant-loop-end l = l.end ≤ length l.bytes

abbrev pub decreases-loop-end : goal.decreases-loop-end
decreases-loop-end l = l.end
