use Rattle.std.proofs.Common.{subst, sym}
use Rattle.kp_conntrack.specs.Laid.{IsLaid}
use Rattle.kp_conntrack.proofs.Dropped.{laid_none}
use Rattle.kp_conntrack.proofs.connections.Connections.empty.Goals as goal

pub invariant_of-self : goal.invariant_of-self
invariant_of-self c =
    let slice = c.as_slice.ensures.value in
    laid_none c.self.inside.rows.items c.drop_all.new.order c.drop_all.new.index c.self.inside.moment 0
    (subst (λ rows. IsLaid rows c.drop_all.new.order c.drop_all.new.index c.self.inside.moment) slice
    (c.drop_all.ensures.laid c.self.inside.moment
    (subst (λ rows. IsLaid rows c.self.inside.order c.self.inside.index c.self.inside.moment) (sym slice) c.self.invariant)))
    c.drop_all.ensures.none
