use Rattle.std.proofs.Common.{◌<◌, arith}
use Rattle.kp_workers.specs.Workers.{lists_of}
use Rattle.kp_workers.proofs.OwnLemmas.{none_together}
use Rattle.kp_workers.proofs.part_lists.PartLists.new.Goals as goal

pub returns : goal.returns
returns c =
    let some : 0 < c.loop-worker._worker =
    omega (arith, c.requires.workers, c.loop-worker-test.false) in
    none_together (lists_of c.loop-worker.all.items) c.loop-worker._worker c.args.size some
    c.loop-worker.invariant
