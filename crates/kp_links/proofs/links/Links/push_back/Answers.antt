use Rattle.std.proofs.Common.{arith}
use Rattle.kp_links.proofs.Ringed.{free_row, free_row_not_last, head_in, is_pushed, last_in, rings_pushed}
use Rattle.kp_links.proofs.links.Links.push_back.Goals as goal

pub splice-requires-clause-next_in : goal.splice-requires-clause-next_in
splice-requires-clause-next_in c =
    omega (arith, (head_in _ _ _ c.self.invariant c.args.list (rw (← c.self.view_is) at c.requires.list_in)).1)

pub splice-requires-clause-prev_in : goal.splice-requires-clause-prev_in
splice-requires-clause-prev_in c =
    omega (arith, last_in _ _ _ c.self.invariant c.args.list (rw (← c.self.view_is) at c.requires.list_in))

pub splice-requires-clause-not_next : goal.splice-requires-clause-not_next
splice-requires-clause-not_next c same =
    omega (arith, (head_in _ _ _ c.self.invariant c.args.list (rw (← c.self.view_is) at c.requires.list_in)).0)

pub splice-requires-clause-not_prev : goal.splice-requires-clause-not_prev
splice-requires-clause-not_prev c =
    free_row_not_last _ _ _ c.self.invariant c.args.row c.args.list (rw (← c.self.view_is) at c.requires.list_in)
    (free_row _ _ _ c.self.invariant c.args.row (rw (← c.self.view_is) at c.requires.free))

pub invariant_of-self : goal.invariant_of-self
invariant_of-self c =
    rings_pushed c.self.inside.links.items c.self.inside.owners.items c.self.inside.heads c.self.invariant
    c.splice.new.links.items c.args.row c.args.list (omega arith)
    (rw (← c.self.view_is) at c.requires.list_in) (rw (← c.self.view_is) at c.requires.row_in)
    (free_row _ _ _ c.self.invariant c.args.row (rw (← c.self.view_is) at c.requires.free))
    c.splice.ensures.splices

pub returns : goal.returns
returns c =
    rw (← c.self.view_is)
    (is_pushed c.self.inside.links.items c.self.inside.owners.items c.self.inside.heads c.self.invariant
    c.splice.new.links.items c.args.row c.args.list (omega arith)
    (rw (← c.self.view_is) at c.requires.list_in) (rw (← c.self.view_is) at c.requires.row_in)
    (free_row _ _ _ c.self.invariant c.args.row (rw (← c.self.view_is) at c.requires.free))
    c.splice.ensures.splices)
