use Rattle.std.proofs.Common.{◌≡◌, take}
use Rattle.kp_part_laws.specs.Beside.{worker_of}
use Rattle.kp_workers.specs.Workers.{GoesOn, done_own}
use Rattle.kp_workers.proofs.worker.take_own.Given as goal

-- its own of the first items are done
abbrev pub invariant-loop-item : goal.invariant-loop-item
invariant-loop-item g l = record {
  done :
      GoesOn (done_own (λ x. worker_of l.place.count (g.W.Work.part l.work x))
      (g.W.Work.step l.work) (take l.item-index l.items) l.place.own l.initial.worker.lists)
      l.initial.worker l.worker;
  size : l.worker.lists.size ≡ l.initial.worker.lists.size;
}
