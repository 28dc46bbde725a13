-- The passes so far, and new ones for the readers that are left, are all; and there are more parts
-- than those.
use Rattle.std.proofs.Common.{◌≡◌, ◌++◌, ◌<◌, [], length, replicate}
use Rattle.std.specs.List.{AllByRecursion}
use Rattle.std.specs.Vec.Iter.{into_iter_items, into_iter_len}
use Rattle.kp_hub.specs.Known.{new_worker}
use Rattle.kp_hub.proofs.workers.workers_of.Given as goal

abbrev pub invariant-loop-reader : goal.invariant-loop-reader
invariant-loop-reader g l = record {
  made : l.passes ++ replicate (length (into_iter_items l.reader-iterator)) new_worker ≡ replicate (length l.fn.readers) new_worker;
  left : into_iter_len l.reader-iterator ≡ length (into_iter_items l.reader-iterator);
  new : AllByRecursion (λ r. (r.seen ≡ []) × (r.told ≡ [])) (into_iter_items l.reader-iterator);
  accepted : length (into_iter_items l.reader-iterator) < l.accepted.parts;
  refused : length (into_iter_items l.reader-iterator) < l.refused.parts;
  none_accepted : l.accepted.amount ≡ 0;
  none_refused : l.refused.amount ≡ 0;
}
