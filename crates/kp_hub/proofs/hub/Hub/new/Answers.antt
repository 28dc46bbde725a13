use Rattle.kp_hub.proofs.NewPasses.{of_queue}
use Rattle.kp_hub.proofs.hub.Hub.new.Goals as goal

pub finish-requires-clause-passes : goal.finish-requires-clause-passes
finish-requires-clause-passes g c = of_queue c.opening.inside.feed c.opening.inside.streams c.opening.inside.feeders c.opening.invariant.1
