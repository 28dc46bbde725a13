-- The passes so far know of fewer.
use Rattle.std.proofs.Common.{◌<◌, take}
use Rattle.std.specs.List.{AllByRecursion}
use Rattle.kp_hub.specs.Known.{known}
use Rattle.kp_hub.proofs.workers.know_fewer.Given as goal

abbrev pub invariant-loop-worker : goal.invariant-loop-worker
invariant-loop-worker g l =
    AllByRecursion (λ w. known w < l.records) (take l.worker-index l.workers)
