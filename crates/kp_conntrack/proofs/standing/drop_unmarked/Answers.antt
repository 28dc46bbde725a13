use Rattle.std.proofs.Common.{refl, sym, ap, ◌∙◌, subst, arith}
use Rattle.std.proofs.lemmas.List.{get_or_read}
use Rattle.kp_conntrack.specs.Laid.{no_entry}
use Rattle.kp_conntrack.specs.Marked.{goes, is_marked}
use Rattle.kp_conntrack.proofs.Dead.{all_sized}
use Rattle.kp_conntrack.proofs.Settled.{settled_at_end, settled_over, settling_at, settling_first, settling_on}
use Rattle.kp_conntrack.proofs.Walked.{walk_in}
use Rattle.kp_conntrack.proofs.standing.drop_unmarked.Goals as goal

pub loop-turn-init : goal.loop-turn-init
loop-turn-init c =
    settling_first c.args.rows.now c.args.marks.now c.args.order.now c.args.index.now c.requires.0 c.requires.1 c.front-next.result c.front-next.ensures.value

pub returns-in_default-clause-entries : goal.returns-in_default-clause-entries
returns-in_default-clause-entries c =
    settled_at_end c.args.rows.now c.args.marks.now c.args.order.now c.args.index.now c.requires.0 c.requires.1 c.loop-turn.order c.loop-turn.index c.loop-turn.next c.in_default.is c.loop-turn._turn c.loop-turn.invariant

pub after-next-requires-clause-list_in : goal.after-next-requires-clause-list_in
after-next-requires-clause-list_in c =
    omega (arith, (c.loop-turn.invariant.laid c.requires.0 c.requires.1).ordered.sized.count)

pub after-next-requires-clause-row_in : goal.after-next-requires-clause-row_in
after-next-requires-clause-row_in c =
    walk_in _ _ c.in-Some.row c.loop-turn._turn (settling_at c.args.rows.now c.args.marks.now c.args.order.now c.args.index.now c.requires.0 c.requires.1 c.loop-turn.order c.loop-turn.index c.loop-turn.next c.in-Some.row c.in-Some.is c.loop-turn._turn c.loop-turn.invariant).walked

pub bounds-rows-row : goal.bounds-rows-row
bounds-rows-row c =
    let laid = c.loop-turn.invariant.laid c.requires.0 c.requires.1 in
    let at = settling_at c.args.rows.now c.args.marks.now c.args.order.now c.args.index.now c.requires.0 c.requires.1 c.loop-turn.order c.loop-turn.index c.loop-turn.next c.in-Some.row c.in-Some.is c.loop-turn._turn c.loop-turn.invariant in
    omega (arith, laid.len, laid.ordered.within c.in-Some.row (walk_in _ _ c.in-Some.row c.loop-turn._turn at.walked))

pub has-requires : goal.has-requires
has-requires c =
    let laid = c.loop-turn.invariant.laid c.requires.0 c.requires.1 in
    let at = settling_at c.args.rows.now c.args.marks.now c.args.order.now c.args.index.now c.requires.0 c.requires.1 c.loop-turn.order c.loop-turn.index c.loop-turn.next c.in-Some.row c.in-Some.is c.loop-turn._turn c.loop-turn.invariant in
    laid.ordered.within c.in-Some.row (walk_in _ _ c.in-Some.row c.loop-turn._turn at.walked)

pub free_if-requires-clause-order_in : goal.free_if-requires-clause-order_in
free_if-requires-clause-order_in c = (c.loop-turn.invariant.laid c.requires.0 c.requires.1).ordered.sized

pub free_if-requires-clause-sized : goal.free_if-requires-clause-sized
free_if-requires-clause-sized c = all_sized _ _ _ _ (c.loop-turn.invariant.laid c.requires.0 c.requires.1)

pub free_if-requires-clause-row_in : goal.free_if-requires-clause-row_in
free_if-requires-clause-row_in c =
    let laid = c.loop-turn.invariant.laid c.requires.0 c.requires.1 in
    let at = settling_at c.args.rows.now c.args.marks.now c.args.order.now c.args.index.now c.requires.0 c.requires.1 c.loop-turn.order c.loop-turn.index c.loop-turn.next c.in-Some.row c.in-Some.is c.loop-turn._turn c.loop-turn.invariant in
    laid.ordered.within c.in-Some.row (walk_in _ _ c.in-Some.row c.loop-turn._turn at.walked)

pub loop-turn-preserved : goal.loop-turn-preserved
loop-turn-preserved c =
    let laid = c.loop-turn.invariant.laid c.requires.0 c.requires.1 in
    let at = settling_at c.args.rows.now c.args.marks.now c.args.order.now c.args.index.now c.requires.0 c.requires.1 c.loop-turn.order c.loop-turn.index c.loop-turn.next c.in-Some.row c.in-Some.is c.loop-turn._turn c.loop-turn.invariant in
    let within = laid.ordered.within c.in-Some.row (walk_in _ _ c.in-Some.row c.loop-turn._turn at.walked) in
    settling_on c.args.rows.now c.args.marks.now c.args.order.now c.args.index.now c.requires.0 c.requires.1 c.loop-turn.order c.loop-turn.index c.in-Some.row c.loop-turn._turn at c.after-next.result c.after-next.ensures.value c.is_lost-lost.result
    (c.is_lost-lost.ensures ∙ ap (λ m. goes m c.index-rows-row.result) c.has.ensures
    ∙ ap (goes (is_marked c.args.marks.now c.in-Some.row)) (get_or_read c.args.rows.now c.in-Some.row c.index-rows-row.result (omega (arith, laid.len, within)) c.index-rows-row.is no_entry))
    c.free_if.new.order c.free_if.new.index c.free_if.ensures

pub returns-clause-entries : goal.returns-clause-entries
returns-clause-entries c =
    settled_over c.args.rows.now c.args.marks.now c.args.order.now c.args.index.now c.requires.0 c.requires.1 c.loop-turn.order c.loop-turn.index c.loop-turn.next c.loop-turn._turn c.loop-turn.invariant (omega arith)
