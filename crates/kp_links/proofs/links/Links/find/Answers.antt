use Rattle.std.proofs.Common.{sym, ◌∙◌, arith}
use Rattle.kp_links.proofs.Reached.{all_unfound, at_row, closed_unfound, reached_first, reached_next, row_found, row_in_links}
use Rattle.kp_links.proofs.Ringed.{head_in}
use Rattle.kp_links.proofs.links.Links.find.Goals as goal

pub index-requires : goal.index-requires
index-requires g c =
    omega (arith, (head_in _ _ _ c.self.invariant c.args.list (rw (← c.self.view_is) at c.requires)).1)

pub loop-turn-init : goal.loop-turn-init
loop-turn-init g c =
    reached_first c.self.inside.links.items c.self.inside.owners.items c.self.inside.heads c.self.invariant c.args.list (g.T.Test.test c.args.test.now) (rw (← c.self.view_is) at c.requires) _ c.index.ensures

pub loop-turn-preserved : goal.loop-turn-preserved
loop-turn-preserved g c =
    let in_links = row_in_links c.self.inside.links.items c.self.inside.owners.items c.self.inside.heads c.self.invariant c.args.list (g.T.Test.test c.args.test.now) (rw (← c.self.view_is) at c.requires) c.loop-turn.at c.loop-turn._turn c.loop-turn.invariant c.if-at-list.false in
    reached_next c.self.inside.links.items c.self.inside.owners.items c.self.inside.heads c.self.invariant c.args.list (g.T.Test.test c.args.test.now) (rw (← c.self.view_is) at c.requires) c.loop-turn.at c.loop-turn._turn c.loop-turn.invariant c.if-at-list.false _
    (sym c.passes.ensures ∙ c.if-passes.false) in_links c.index-in-loop-turn.ensures

pub returns-then-at-list-clause-value : goal.returns-then-at-list-clause-value
returns-then-at-list-clause-value g c =
    rw (← c.self.view_is) (closed_unfound c.self.inside.links.items c.self.inside.owners.items c.self.inside.heads c.self.invariant c.args.list (g.T.Test.test c.args.test.now) (rw (← c.self.view_is) at c.requires) c.loop-turn.at c.loop-turn._turn c.loop-turn.invariant c.if-at-list.true)

pub overflow_sub-at : goal.overflow_sub-at
overflow_sub-at g c =
    let row = at_row c.self.inside.links.items c.self.inside.owners.items c.self.inside.heads c.self.invariant c.args.list (g.T.Test.test c.args.test.now) (rw (← c.self.view_is) at c.requires) c.loop-turn.at c.loop-turn._turn c.loop-turn.invariant c.if-at-list.false in
    omega (arith, row.place)

pub overflow_sub-result : goal.overflow_sub-result
overflow_sub-result g c =
    let row = at_row c.self.inside.links.items c.self.inside.owners.items c.self.inside.heads c.self.invariant c.args.list (g.T.Test.test c.args.test.now) (rw (← c.self.view_is) at c.requires) c.loop-turn.at c.loop-turn._turn c.loop-turn.invariant c.if-at-list.false in
    omega (arith, row.place)

pub returns-then-passes-clause-value : goal.returns-then-passes-clause-value
returns-then-passes-clause-value g c =
    rw (← c.self.view_is)
    (row_found c.self.inside.links.items c.self.inside.owners.items c.self.inside.heads c.self.invariant c.args.list (g.T.Test.test c.args.test.now) (rw (← c.self.view_is) at c.requires) c.loop-turn.at c.loop-turn._turn c.loop-turn.invariant c.if-at-list.false
    (sym c.passes.ensures ∙ c.if-passes.true))

pub returns-then-passes-clause-within : goal.returns-then-passes-clause-within
returns-then-passes-clause-within g c =
    rw (← c.self.view_is) (at_row c.self.inside.links.items c.self.inside.owners.items c.self.inside.heads c.self.invariant c.args.list (g.T.Test.test c.args.test.now) (rw (← c.self.view_is) at c.requires) c.loop-turn.at c.loop-turn._turn c.loop-turn.invariant c.if-at-list.false).within

pub index-requires-in-loop-turn : goal.index-requires-in-loop-turn
index-requires-in-loop-turn g c =
    let in_links = row_in_links c.self.inside.links.items c.self.inside.owners.items c.self.inside.heads c.self.invariant c.args.list (g.T.Test.test c.args.test.now) (rw (← c.self.view_is) at c.requires) c.loop-turn.at c.loop-turn._turn c.loop-turn.invariant c.if-at-list.false in
    omega (arith, in_links)

pub returns-clause-value : goal.returns-clause-value
returns-clause-value g c =
    rw (← c.self.view_is)
    (all_unfound c.self.inside.links.items c.self.inside.owners.items c.self.inside.heads c.self.invariant c.args.list (g.T.Test.test c.args.test.now) (rw (← c.self.view_is) at c.requires) c.loop-turn.at c.loop-turn._turn c.loop-turn.invariant (omega arith))
