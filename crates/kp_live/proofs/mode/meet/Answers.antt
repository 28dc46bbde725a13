use Rattle.kp_hub.specs.Finishing.{records_told}
use Rattle.kp_live.specs.Streams.{GoesOnFromAll}
use Rattle.kp_live.proofs.Meeting.{met_next, rest_next}
use Rattle.kp_live.proofs.mode.meet.Goals as goal

-- one more worker has met
pub loop-worker-preserved : goal.loop-worker-preserved
loop-worker-preserved g c = record {
  met =
      met_next
      (GoesOnFromAll
      (records_told g.J.Sharing.config c.args.done.now.journal c.args.done.now.notes))
      c.args.workers.now c.loop-worker.worker-items c.loop-worker.worker-index
      c.worker-item.result c.loop-worker-test.true c.loop-worker.invariant.rest
      (c.same_hub.ensures.seen, c.same_hub.ensures.told) c.loop-worker.invariant.met;
  rest =
      rest_next c.loop-worker.worker-items c.args.workers.now c.loop-worker.worker-index
      c.same_hub.new.pass c.loop-worker.invariant.rest;
}
