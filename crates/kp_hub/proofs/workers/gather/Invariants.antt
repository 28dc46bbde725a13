-- The passes so far have given their counts.
use Rattle.std.proofs.Common.{◌≡◌, ◌+◌, ◌<◌, ◌++◌, drop, map, sum, take}
use Rattle.kp_hub.specs.Known.{uncounted}
use Rattle.kp_hub.proofs.workers.gather.Given as goal

abbrev pub invariant-loop-worker : goal.invariant-loop-worker
invariant-loop-worker g l = record {
  accepted : l.accepted.amount ≡ l.fn.accepted.amount + sum (map (λ w. w.accepted) (take l.worker-index l.fn.workers));
  refused : l.refused.amount ≡ l.fn.refused.amount + sum (map (λ w. w.refused) (take l.worker-index l.fn.workers));
  workers : l.workers ≡ map uncounted (take l.worker-index l.fn.workers) ++ drop l.worker-index l.fn.workers;
  parts : 0 < l.accepted.parts;
  refused_parts : 0 < l.refused.parts;
}
