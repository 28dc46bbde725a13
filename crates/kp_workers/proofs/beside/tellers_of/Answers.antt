use Rattle.std.proofs.Common.{◌≡◌, None}
use Rattle.kp_workers.specs.Texts.{kept_in, left_in}
use Rattle.kp_workers.specs.declared.worker.Worker.{Worker}
use Rattle.kp_workers.proofs.BesideLemmas.{first_more, tellers_more}
use Rattle.kp_workers.proofs.beside.tellers_of.Goals as goal

-- one more worker
pub loop-worker-preserved : goal.loop-worker-preserved
loop-worker-preserved c = record {
  none =
      first_more (λ x. x.refused ≡ None) c.args.workers.now c.loop-worker.worker-index
      c.worker-item.result c.loop-worker-test.true c.worker-item.is c.loop-worker.invariant.none
      c.in-None.is;
  kept =
      tellers_more left_in (λ (x : Worker). kept_in x.texts) c.loop-worker.tellers.items
      c.push.new.self.items c.unfold.result c.args.workers.now c.loop-worker.worker-index
      c.worker-item.result c.loop-worker-test.true c.worker-item.is c.in_ok-push.ensures.items
      c.unfold.ensures c.loop-worker.invariant.kept;
}
