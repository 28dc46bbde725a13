use Rattle.kp_plane.specs.Invariant.{parts_of}
use Rattle.kp_plane.proofs.Accepted.{accepted}
use Rattle.kp_plane.proofs.plane.Plane.accept.Goals as goal

pub invariant_of-self : goal.invariant_of-self
invariant_of-self c =
    accepted c.exact_histories.ensures.by_events c.sync_records.ensures.stay c.push.result
    (parts_of c.self.inside.config c.self.inside.journal c.self.inside.history)
    c.args.events c.self.inside.journal c.push.new.self c.self.inside.history c.self.inside.ports c.self.inside.explained c.self.inside.slices
    c.push.ensures.ok c.push.ensures.fits c.push.ensures.err c.self.invariant
