use Rattle.std.proofs.Common.{◌≡◌, ◌++◌, None, map, length}
use Rattle.std.specs.List.{AllByRecursion}
use Rattle.std.specs.Vec.Iter.{into_iter_items, into_iter_len}
use Rattle.kp_workers.proofs.walks.take_apart.Given as goal

-- the parts so far, with those of the workers that are left, are the parts of all
abbrev pub invariant-loop-walker : goal.invariant-loop-walker
invariant-loop-walker l = record {
  lists :
      l.values.items ++ map (λ w. w.lists) (into_iter_items l.walker-iterator)
      ≡ map (λ w. w.lists) l.fn.walkers.items;
  queues :
      l.queues.items ++ map (λ w. w.answers) (into_iter_items l.walker-iterator)
      ≡ map (λ w. w.answers) l.fn.walkers.items;
  none :
      AllByRecursion (λ w. w.refused ≡ None) (into_iter_items l.walker-iterator)
      → AllByRecursion (λ w. w.refused ≡ None) l.fn.walkers.items;
  left : into_iter_len l.walker-iterator ≡ length (into_iter_items l.walker-iterator);
}
