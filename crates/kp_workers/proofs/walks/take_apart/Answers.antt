use Rattle.std.proofs.Common.{◌≡◌, None, arith, ap, length}
use Rattle.std.specs.Vec.Iter.{into_iter_items}
use Rattle.kp_workers.proofs.WalkLemmas.{holds_of_all, moved}
use Rattle.kp_workers.proofs.walks.take_apart.Goals as goal

-- the parts of one more worker
pub loop-walker-preserved : goal.loop-walker-preserved
loop-walker-preserved c =
    let is = c.in-Some.ensures.steps.0 in
    let left = into_iter_items c.loop-walker.walker-iterator in
    let after = into_iter_items c.next.new.self in
    record {
      lists =
          moved (λ w. w.lists) left after c.in-Some.walker _ c.loop-walker.values.items
          c.push.new.self.items _ c.in_ok-lists.ensures.lists is c.in_ok-push.ensures.items
          c.loop-walker.invariant.lists;
      queues =
          moved (λ w. w.answers) left after c.in-Some.walker _ c.loop-walker.queues.items
          c.push-in-loop-walker.new.self.items _ c.in_ok-lists.ensures.answers is
          c.in_ok-push-2.ensures.items c.loop-walker.invariant.queues;
      none =
          holds_of_all (λ w. w.refused ≡ None) left after c.in-Some.walker _ is
          c.in_ok-lists.ensures.none c.loop-walker.invariant.none;
      left =
          let long = ap length is in
          omega (arith, c.in-Some.ensures.steps.1, long, c.loop-walker.invariant.left);
    }
