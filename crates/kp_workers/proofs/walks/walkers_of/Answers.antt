use Rattle.std.proofs.Common.{arith, ap, length}
use Rattle.std.proofs.lemmas.Grind.{common_steps}
use Rattle.kp_workers.proofs.walks.walkers_of.Goals as goal

-- one more lists have a worker
pub loop-lists-preserved : goal.loop-lists-preserved
loop-lists-preserved c =
    let is = c.in-Some.ensures.steps.0 in
    let grown = c.in_ok-push.ensures.items in
    record {
      lists = grind (arith, common_steps, is, grown, c.new.ensures, c.loop-lists.invariant.lists);
      left =
          let long = ap length is in
          omega (arith, c.in-Some.ensures.steps.1, long, c.loop-lists.invariant.left);
    }
