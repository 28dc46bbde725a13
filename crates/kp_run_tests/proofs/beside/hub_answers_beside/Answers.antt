use Rattle.kp_hub.proofs.NewPasses.{of_queue}
use Rattle.kp_run_tests.proofs.beside.hub_answers_beside.Goals as goal

-- the passes of a new hub are of its queue
pub finish-requires : goal.finish-requires
finish-requires g c = record {
  passes = of_queue g.J.Sharing.queue c.args.opening.streams c.in_ok-hub.feeders
      c.in_ok-hub.ensures.feeders;
}
