use Rattle.kp_hub.proofs.NewPasses.{of_queue}
use Rattle.kp_hub.proofs.opening.Opening.end.Goals as goal

pub finish-requires-clause-passes : goal.finish-requires-clause-passes
finish-requires-clause-passes g c = of_queue c.self.inside.feed c.self.inside.streams c.self.inside.feeders c.self.invariant.1
