use Rattle.kp_plane.proofs.Start.{first_plane, first_parts}
use Rattle.kp_plane.proofs.plane.Plane.new.Goals as goal

pub invariant_of-result : goal.invariant_of-result
invariant_of-result c =
    first_plane c.args.config c.new-journal.result c.in_ok-history.history c.in_ok-ports.ports
    c.start-2.result c.start-3.result c.new-journal.ensures
    c.in_ok-history.ensures c.in_ok-ports.ensures c.start-2.ensures.place
    c.start-2.ensures.start c.start-3.ensures

pub returns : goal.returns
returns c =
    first_parts c.args.config c.new-journal.result c.in_ok-history.history c.new-journal.ensures
    c.in_ok-history.ensures
