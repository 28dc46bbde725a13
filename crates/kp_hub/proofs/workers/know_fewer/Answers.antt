use Rattle.std.proofs.Common.{◌<◌}
use Rattle.kp_hub.specs.Known.{Worker, known}
use Rattle.kp_hub.proofs.Counting.{all_next}
use Rattle.kp_hub.proofs.workers.know_fewer.Goals as goal

pub loop-worker-preserved : goal.loop-worker-preserved
loop-worker-preserved g c =
    all_next (λ (w : Worker). known w < c.args.records) c.args.workers.now
    c.loop-worker.worker-index c.worker-item.result c.loop-worker-test.true c.worker-item.is
    c.knows_fewer.ensures c.loop-worker.invariant
