use Rattle.std.proofs.Common.{◌≡◌, ◌+◌, length}
use Rattle.kp_vmap.specs.Merged.{merged}
use Rattle.kp_vmap.proofs.source.count.Given as goal

-- what was counted and what is left are all of them
abbrev pub invariant-loop-some : goal.invariant-loop-some
invariant-loop-some l =
    l.count + length (merged l.some l.others) ≡ length (merged l.fn.some l.fn.others)

abbrev pub decreases-loop-some : goal.decreases-loop-some
decreases-loop-some l = length (merged l.some l.others)
