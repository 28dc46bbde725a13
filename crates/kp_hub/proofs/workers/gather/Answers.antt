use Rattle.std.proofs.Common.{◌≡◌, arith, ap, ◌∙◌, ◌++◌, map, drop, take, slice_set, slice_index_or}
use Rattle.kp_hub.specs.Known.{Worker, uncounted}
use Rattle.kp_hub.proofs.Counting.{counted_next, still_there, changed_next}
use Rattle.kp_hub.proofs.workers.gather.Goals as goal

pub loop-worker-preserved : goal.loop-worker-preserved
loop-worker-preserved g c =
    let ws = c.args.workers.now in
    let i = c.loop-worker.worker-index in
    let d = c.worker-item.result in
    let lt = c.loop-worker-test.true in
    let held : slice_index_or c.loop-worker.workers i d ≡ slice_index_or ws i d =
    ap (λ l. slice_index_or l i d) c.loop-worker.invariant.workers ∙ still_there uncounted ws i d lt in
    record {
      accepted =
          let more = counted_next (λ (w : Worker). w.accepted) ws i d lt in
          let one = ap (λ (w : Worker). w.accepted) held in
          let so_far = c.loop-worker.invariant.accepted in
          let now = c.give_counts.ensures.accepted in omega (arith, more, one, so_far, now);
      refused =
          let more = counted_next (λ (w : Worker). w.refused) ws i d lt in
          let one = ap (λ (w : Worker). w.refused) held in
          let so_far = c.loop-worker.invariant.refused in
          let now = c.give_counts.ensures.refused in omega (arith, more, one, so_far, now);
      workers =
          (λ j. slice_set (c.loop-worker.invariant.workers j) i (c.give_counts.ensures.stays j))
          ∙ (ap (λ w. slice_set (map uncounted (take i ws) ++ drop i ws) i (uncounted w)) held ∙ changed_next uncounted ws i d lt);
      parts = c.give_counts.ensures.parts.0;
      refused_parts = c.give_counts.ensures.parts.1;
    }
