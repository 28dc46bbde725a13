use Rattle.std.proofs.Common.{◌≡◌, drop, take}
use Rattle.std.specs.List.{AllByRecursion}
use Rattle.kp_hub.specs.Finishing.{records_told}
use Rattle.kp_live.specs.Streams.{GoesOnFromAll}
use Rattle.kp_live.proofs.mode.meet.Given as goal

-- the first workers have met, and the others are as they were
abbrev pub invariant-loop-worker : goal.invariant-loop-worker
invariant-loop-worker g l = record {
  met : AllByRecursion
      (GoesOnFromAll (records_told g.J.Sharing.config l.done.journal l.done.notes))
      (take l.worker-index l.fn.workers);
  rest : drop l.worker-index l.worker-items ≡ drop l.worker-index l.fn.workers;
}
