use Rattle.std.proofs.Common.{◌≡◌, ◌++◌, map, length}
use Rattle.std.specs.Vec.Iter.{into_iter_items, into_iter_len}
use Rattle.kp_workers.proofs.walks.walkers_of.Given as goal

-- the first lists have workers
abbrev pub invariant-loop-lists : goal.invariant-loop-lists
invariant-loop-lists l = record {
  lists : map (λ w. w.lists) l.walkers.items ++ into_iter_items l.lists-iterator ≡ l.fn.values;
  left : into_iter_len l.lists-iterator ≡ length (into_iter_items l.lists-iterator);
}
