use Rattle.kp_recent.proofs.Marking.{covered_after}
use Rattle.kp_recent.proofs.marked.MarkedShelf.set.Goals as goal

-- the source is marked before it is set or refused
pub invariant_of-self : goal.invariant_of-self
invariant_of-self c =
    covered_after c.self.inside.marks c.set.new.self c.set.ensures.others c.set-2.result
    c.self.inside.shelf c.set-2.new.self c.self.invariant c.args.list.now c.args.source.now
    c.args.now c.set.ensures.own c.set-2.ensures.ok c.set-2.ensures.err
