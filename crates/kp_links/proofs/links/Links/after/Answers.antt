use Rattle.std.proofs.Common.{arith}
use Rattle.kp_links.proofs.Followed.{link_in, no_more, row_is_in, some_more, some_place}
use Rattle.kp_links.proofs.links.Links.after.Goals as goal

pub overflow_add-self-inside : goal.overflow_add-self-inside
overflow_add-self-inside c =
    let fits = c.self.invariant.fits in
    let within = row_is_in _ _ _ c.self.invariant c.args.list (rw (← c.self.view_is) at c.requires.list_in) c.args.row (rw (← c.self.view_is) at c.requires.row_in) in
    omega (arith, fits, within)

pub index-requires : goal.index-requires
index-requires c =
    omega (arith, link_in _ _ _ c.self.invariant c.args.list (rw (← c.self.view_is) at c.requires.list_in) c.args.row (rw (← c.self.view_is) at c.requires.row_in))

pub overflow_sub-result : goal.overflow_sub-result
overflow_sub-result c =
    (some_place _ _ _ c.self.invariant c.args.list (rw (← c.self.view_is) at c.requires.list_in) c.args.row (rw (← c.self.view_is) at c.requires.row_in) _ c.index.ensures c.if-next-list.false).0

pub returns-then-next-list-clause-value : goal.returns-then-next-list-clause-value
returns-then-next-list-clause-value c before rest whole =
    no_more _ _ _ c.self.invariant c.args.list (rw (← c.self.view_is) at c.requires.list_in) c.args.row (rw (← c.self.view_is) at c.requires.row_in) _ c.index.ensures c.if-next-list.true before rest (rw (← c.self.view_is) at whole)

pub returns-else-next-list-clause-value : goal.returns-else-next-list-clause-value
returns-else-next-list-clause-value c before rest whole =
    (some_more _ _ _ c.self.invariant c.args.list (rw (← c.self.view_is) at c.requires.list_in) c.args.row (rw (← c.self.view_is) at c.requires.row_in) _ c.index.ensures c.if-next-list.false before rest (rw (← c.self.view_is) at whole)).1

pub returns-else-next-list-clause-within : goal.returns-else-next-list-clause-within
returns-else-next-list-clause-within c =
    rw (← c.self.view_is) (some_place _ _ _ c.self.invariant c.args.list (rw (← c.self.view_is) at c.requires.list_in) c.args.row (rw (← c.self.view_is) at c.requires.row_in) _ c.index.ensures c.if-next-list.false).1
