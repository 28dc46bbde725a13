use Rattle.std.proofs.Common.{sym, subst}
use Rattle.kp_hub.specs.Ready.{AreReady}
use Rattle.kp_hub.proofs.state.Held.sync_and_publish.Goals as goal

pub publish_all-requires-clause-ready : goal.publish_all-requires-clause-ready
publish_all-requires-clause-ready g c =
    subst (AreReady g.J.Publication.start) (sym c.self.invariant.2.publishes.records) c.are_ready.ensures
