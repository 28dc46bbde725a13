use Rattle.std.proofs.Common.{◌<◌, IfSome}
use Rattle.kp_links.specs.Lists.{rows_of}
use Rattle.kp_conntrack.specs.Marked.{IsMarking}
use Rattle.kp_conntrack.proofs.standing.mark_sent_to.Given as goal

abbrev pub invariant-loop-turn : goal.invariant-loop-turn
invariant-loop-turn l =
    IsMarking l.rows l.endpoint (rows_of l.endpoints l.bucket) l.fn.marks l.marks l.next l._turn
    × IfSome l.next (λ row. row < 65536)
