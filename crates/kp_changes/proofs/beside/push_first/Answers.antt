use Rattle.kp_changes.specs.Neighbours.{neighbour_text}
use Rattle.kp_changes.proofs.Shown.{next_seen}
use Rattle.kp_changes.proofs.beside.push_first.Goals as goal

pub loop-neighbour-preserved : goal.loop-neighbour-preserved
loop-neighbour-preserved c =
    next_seen neighbour_text c.args.first.now c.loop-neighbour.neighbour-index
    c.neighbour-item.result _ _ _ c.in_ok-push_neighbour.ensures.added c.loop-neighbour.invariant
    c.loop-neighbour-test.true c.neighbour-item.is
