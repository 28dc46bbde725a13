use Rattle.std.proofs.Common.{arith, ap, length, subst, ◌≡◌, List, []}
use Rattle.std.specs.List.{AllByRecursion}
use Rattle.std.specs.Vec.Iter.{into_iter_items}
use Rattle.kp_publish.specs.Knows.{Knows}
use Rattle.kp_hub.specs.Known.{new_worker}
use Rattle.kp_hub.proofs.Counting.{made_next}
use Rattle.kp_hub.proofs.workers.workers_of.Goals as goal

pub loop-reader-preserved : goal.loop-reader-preserved
loop-reader-preserved g c =
    let was = c.loop-reader.invariant in
    let step = c.in-Some.ensures.steps in
    let left : List Knows = into_iter_items c.loop-reader.reader-iterator in
    let rest : List Knows = into_iter_items c.next.new.self in
    let fewer = ap length step.0 in
    let was_left = was.left in
    let one_less = step.1 in
    let had = was.accepted in
    let gave = c.worker_of.ensures.accepted in
    let had_refused = was.refused in
    let gave_refused = c.worker_of.ensures.refused in
    record {
      made = made_next new_worker c.loop-reader.passes c.push.new.self c.in_ok-pass.pass left rest c.in-Some.reader (length c.args.readers)
          was.made step.0 c.in_ok-pass.ensures.new c.in-Ok.ensures.ok;
      left = omega (arith, fewer, was_left, one_less);
      new = (subst (AllByRecursion (λ (x : Knows). (x.seen ≡ []) × (x.told ≡ []))) step.0 was.new).1;
      accepted = omega (arith, fewer, had, gave);
      refused = omega (arith, fewer, had_refused, gave_refused);
      none_accepted = c.worker_of.ensures.none.0;
      none_refused = c.worker_of.ensures.none.1;
    }
