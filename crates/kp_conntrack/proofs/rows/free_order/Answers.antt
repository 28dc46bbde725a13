use Rattle.std.proofs.Common.{arith}
use Rattle.kp_conntrack.proofs.Free.{free_push}
use Rattle.kp_conntrack.proofs.rows.free_order.Goals as goal

pub push_back-requires-clause-free : goal.push_back-requires-clause-free
push_back-requires-clause-free c list found =
    let less = c.loop-row.invariant.3 list c.loop-row.row found in omega (arith, less)

pub loop-row-preserved : goal.loop-row-preserved
loop-row-preserved c =
    free_push c.loop-row.order c.push_back.new.self c.args.count c.loop-row.row c.loop-row.invariant c.push_back.ensures
