use Rattle.std.proofs.Common.{◌≡◌, rules}
use Rattle.kp_hub.proofs.NewPasses.{of_queue}
use Rattle.kp_run_tests.proofs.hubs.told.Goals as goal

-- the passes of a new hub are of its queue
pub take_by_first-taken-requires : goal.take_by_first-taken-requires
take_by_first-taken-requires g c =
    let is : c.as_mut_slice.result.now ≡ c.in_ok-hub.feeders = search rules in
    rw is (of_queue g.J.Sharing.queue c.args.opening.streams c.in_ok-hub.feeders
    c.in_ok-hub.ensures.feeders)
