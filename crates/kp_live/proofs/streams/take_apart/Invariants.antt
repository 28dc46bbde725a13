use Rattle.std.proofs.Common.{◌≡◌, ◌++◌, None, map, length}
use Rattle.std.specs.List.{AllByRecursion}
use Rattle.std.specs.Vec.Iter.{into_iter_items, into_iter_len}
use Rattle.kp_live.proofs.streams.take_apart.Given as goal

-- the parts so far, with those of the streams that are left, are the parts of all
abbrev pub invariant-loop-stream : goal.invariant-loop-stream
invariant-loop-stream g l = record {
  feeders : l.ended.feeders ++ map (λ s. s.standing.feeder) (into_iter_items l.stream-iterator)
      ≡ map (λ s. s.standing.feeder) l.fn.streams.items;
  workers : l.ended.workers.items
      ++ map (λ s. s.standing.worker) (into_iter_items l.stream-iterator)
      ≡ map (λ s. s.standing.worker) l.fn.streams.items;
  answers : l.ended.answers.items
      ++ map (λ s. s.standing.answers) (into_iter_items l.stream-iterator)
      ≡ map (λ s. s.standing.answers) l.fn.streams.items;
  whole : AllByRecursion (λ s. s.refused ≡ None) (into_iter_items l.stream-iterator)
      → AllByRecursion (λ s. s.refused ≡ None) l.fn.streams.items;
  left : into_iter_len l.stream-iterator ≡ length (into_iter_items l.stream-iterator);
}
