use Rattle.std.proofs.Common.{arith}
use Rattle.kp_links.proofs.Ringed.{elsewhere, head_in, none_first, row_within, rows_apart, some_first}
use Rattle.kp_links.proofs.links.Links.front.Goals as goal

pub index-requires : goal.index-requires
index-requires c =
    omega (arith, (head_in _ _ _ c.self.invariant c.args.list (rw (← c.self.view_is) at c.requires)).1)

pub overflow_sub-result : goal.overflow_sub-result
overflow_sub-result c =
    (some_first _ _ _ c.self.invariant c.args.list _ (rw (← c.self.view_is) at c.requires) c.index.ensures c.if-first-list.false).0

pub returns-then-first-list-clause-value : goal.returns-then-first-list-clause-value
returns-then-first-list-clause-value c =
    rw (← c.self.view_is) (none_first _ _ _ c.self.invariant c.args.list _ (rw (← c.self.view_is) at c.requires) c.index.ensures c.if-first-list.true)

pub returns-then-first-list-clause-apart : goal.returns-then-first-list-clause-apart
returns-then-first-list-clause-apart c =
    rw (← c.self.view_is) (rows_apart _ _ _ c.self.invariant c.args.list (rw (← c.self.view_is) at c.requires))

pub returns-else-first-list-clause-value : goal.returns-else-first-list-clause-value
returns-else-first-list-clause-value c =
    rw (← c.self.view_is) (some_first _ _ _ c.self.invariant c.args.list _ (rw (← c.self.view_is) at c.requires) c.index.ensures c.if-first-list.false).1

pub returns-else-first-list-clause-within : goal.returns-else-first-list-clause-within
returns-else-first-list-clause-within c =
    rw (← c.self.view_is) (row_within _ _ _ (some_first _ _ _ c.self.invariant c.args.list _ (rw (← c.self.view_is) at c.requires) c.index.ensures c.if-first-list.false).2)

pub returns-else-first-list-clause-elsewhere : goal.returns-else-first-list-clause-elsewhere
returns-else-first-list-clause-elsewhere c other differs =
    rw (← c.self.view_is) (elsewhere _ _ _ c.self.invariant _ c.args.list (some_first _ _ _ c.self.invariant c.args.list _ (rw (← c.self.view_is) at c.requires) c.index.ensures c.if-first-list.false).2 other differs)

pub returns-else-first-list-clause-apart : goal.returns-else-first-list-clause-apart
returns-else-first-list-clause-apart c =
    rw (← c.self.view_is) (rows_apart _ _ _ c.self.invariant c.args.list (rw (← c.self.view_is) at c.requires))
