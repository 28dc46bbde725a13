use Rattle.std.proofs.Common.{sym, arith}
use Rattle.kp_conntrack.specs.Laid.{kept_rows}
use Rattle.kp_conntrack.proofs.Added.{first_in}
use Rattle.kp_conntrack.proofs.Dead.{all_sized}
use Rattle.kp_conntrack.proofs.Dropped.{no_first, one_fewer, still_laid}
use Rattle.kp_conntrack.proofs.rows.drop_all.Goals as goal

pub front-requires : goal.front-requires
front-requires c =
    let laid = c.loop-row.invariant c.requires.0 c.requires.1 in
    omega (arith, laid.ordered.sized.count)

pub move_back-requires-clause-list_in : goal.move_back-requires-clause-list_in
move_back-requires-clause-list_in c =
    let laid = c.loop-row.invariant c.requires.0 c.requires.1 in
    omega (arith, laid.ordered.sized.count)

pub remove-requires-clause-sized : goal.remove-requires-clause-sized
remove-requires-clause-sized c = all_sized _ _ _ _ (c.loop-row.invariant c.requires.0 c.requires.1)

pub remove-requires-clause-row_in : goal.remove-requires-clause-row_in
remove-requires-clause-row_in c =
    let laid = c.loop-row.invariant c.requires.0 c.requires.1 in
    omega (arith, laid.ordered.sized.rows, c.in-Some.ensures.within)

pub loop-row-smaller : goal.loop-row-smaller
loop-row-smaller c =
    one_fewer c.args.rows.now c.loop-row.order c.move_back.new.self c.loop-row.index c.remove.new.self c.in-Some.row c.move_back.ensures c.remove.ensures c.requires.0
    (c.loop-row.invariant c.requires.0 c.requires.1) (first_in c.in-Some.row (kept_rows c.loop-row.order) (sym c.in-Some.ensures.value))

pub loop-row-preserved : goal.loop-row-preserved
loop-row-preserved c moment before =
    still_laid c.args.rows.now c.loop-row.order c.move_back.new.self c.loop-row.index c.remove.new.self c.in-Some.row c.move_back.ensures c.remove.ensures moment
    (c.loop-row.invariant moment before) (first_in c.in-Some.row (kept_rows c.loop-row.order) (sym c.in-Some.ensures.value))

pub returns-clause-none : goal.returns-clause-none
returns-clause-none c = no_first (kept_rows c.loop-row.order) c.in_default.ensures.value
