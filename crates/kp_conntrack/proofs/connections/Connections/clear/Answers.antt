use Rattle.std.proofs.Common.{subst, sym}
use Rattle.kp_conntrack.specs.Laid.{IsLaid}
use Rattle.kp_conntrack.proofs.connections.Connections.clear.Goals as goal

pub invariant_of-self : goal.invariant_of-self
invariant_of-self c =
    let slice = c.as_slice.ensures.value in
    subst (λ rows. IsLaid rows c.drop_sent_to.new.order c.drop_sent_to.new.index c.self.inside.moment) slice
    (c.drop_sent_to.ensures.laid c.self.inside.moment
    (subst (λ rows. IsLaid rows c.self.inside.order c.self.inside.index c.self.inside.moment) (sym slice) c.self.invariant))
