use Rattle.std.proofs.Common.{◌≡◌, None, arith, ap, length}
use Rattle.std.specs.Vec.Iter.{into_iter_items}
use Rattle.kp_live.proofs.Cutting.{moves, whole_moves}
use Rattle.kp_live.proofs.streams.take_apart.Goals as goal

-- the parts of one more stream
pub loop-stream-preserved : goal.loop-stream-preserved
loop-stream-preserved g c =
    let is = c.in-Some.ensures.steps.0 in
    record {
      feeders =
          moves (into_iter_items c.loop-stream.stream-iterator) (into_iter_items c.next.new.self)
          c.in-Some.stream (λ s. s.standing.feeder) c.loop-stream.ended.feeders
          c.add_parts.new.ended.feeders _ c.loop-stream.invariant.feeders is
          c.in_ok-add_parts.ensures.feeders;
      workers =
          moves (into_iter_items c.loop-stream.stream-iterator) (into_iter_items c.next.new.self)
          c.in-Some.stream (λ s. s.standing.worker) c.loop-stream.ended.workers.items
          c.add_parts.new.ended.workers.items _ c.loop-stream.invariant.workers is
          c.in_ok-add_parts.ensures.workers;
      answers =
          moves (into_iter_items c.loop-stream.stream-iterator) (into_iter_items c.next.new.self)
          c.in-Some.stream (λ s. s.standing.answers) c.loop-stream.ended.answers.items
          c.add_parts.new.ended.answers.items _ c.loop-stream.invariant.answers is
          c.in_ok-add_parts.ensures.answers;
      whole =
          whole_moves (λ s. s.refused ≡ None) (into_iter_items c.loop-stream.stream-iterator)
          (into_iter_items c.next.new.self) c.in-Some.stream c.args.streams.items
          c.loop-stream.invariant.whole is c.in_ok-add_parts.ensures.whole;
      left =
          let long = ap length is in
          omega (arith, c.in-Some.ensures.steps.1, long, c.loop-stream.invariant.left);
    }
