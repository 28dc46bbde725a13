use Rattle.std.proofs.Common.{All, map}
use Rattle.std.specs.Map.Iter.{deref_pair}
use Rattle.kp_recent.specs.Marked.{AreMarked}
use Rattle.kp_recent.specs.Moments.{shown_in}
use Rattle.kp_recent.proofs.shelf.Shelf.mark_all.Given as goal

-- the parts so far are marked
abbrev pub invariant-loop-key : goal.invariant-loop-key
invariant-loop-key l =
    All (λ e. AreMarked l.marks e.0.list (shown_in e.1)) (map deref_pair l.yielded)
