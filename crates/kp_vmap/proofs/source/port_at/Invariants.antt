use Rattle.std.proofs.Common.{◌≡◌, ◌<◌, length, slice_get}
use Rattle.kp_vmap.specs.Merged.{merged}
use Rattle.kp_vmap.proofs.source.port_at.Given as goal

-- the place is in what is left, and the port there is the one that is asked for
abbrev pub invariant-loop-some : goal.invariant-loop-some
invariant-loop-some l =
    (l.place < length (merged l.some l.others))
    × (slice_get (merged l.some l.others) l.place
    ≡ slice_get (merged l.fn.some l.fn.others) l.fn.place)

abbrev pub decreases-loop-some : goal.decreases-loop-some
decreases-loop-some l = length (merged l.some l.others)
