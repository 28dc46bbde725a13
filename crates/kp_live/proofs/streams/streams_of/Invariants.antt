use Rattle.std.proofs.Common.{◌≡◌, ◌++◌, map, length, replicate, []}
use Rattle.std.specs.List.{AllByRecursion}
use Rattle.std.specs.Vec.Iter.{into_iter_items, into_iter_len}
use Rattle.kp_hub.specs.Known.{new_worker}
use Rattle.kp_live.specs.Streams.{IsAtStart}
use Rattle.kp_live.proofs.streams.streams_of.Given as goal

-- each feeder so far has a stream, and as many workers are left as feeders
abbrev pub invariant-loop-feeder : goal.invariant-loop-feeder
invariant-loop-feeder g l = record {
  feeders : map (λ s. s.standing.feeder) l.streams.items ++ into_iter_items l.feeder-iterator
      ≡ l.fn.feeders;
  workers : l.workers.items ≡ replicate (length (into_iter_items l.feeder-iterator)) new_worker;
  new : AllByRecursion (λ s. IsAtStart l.config s.standing) l.streams.items;
  lines : AllByRecursion (λ s. s.lines.items ≡ []) l.streams.items;
  left : into_iter_len l.feeder-iterator ≡ length (into_iter_items l.feeder-iterator);
}
