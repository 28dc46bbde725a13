use Rattle.kp_conntrack.proofs.Settled.{IsSettling}
use Rattle.kp_conntrack.proofs.standing.drop_unmarked.Given as goal

abbrev pub invariant-loop-turn : goal.invariant-loop-turn
invariant-loop-turn l = IsSettling l.rows l.marks l.fn.order l.order l.fn.index l.index l.next l._turn
