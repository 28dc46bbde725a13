use Rattle.std.proofs.Common.{[], ◌∷◌}
use Rattle.kp_plane.specs.Invariant.{parts_of}
use Rattle.kp_plane.proofs.Accepted.{accepted}
use Rattle.kp_plane.proofs.plane.Plane.accept_one.Goals as goal

pub invariant_of-self : goal.invariant_of-self
invariant_of-self c =
    accepted c.exact_histories.ensures.by_events c.sync_records.ensures.stay c.push_one.result
    (parts_of c.self.inside.config c.self.inside.journal c.self.inside.history)
    (c.args.event ∷ []) c.self.inside.journal c.push_one.new.self c.self.inside.history
    c.self.inside.ports c.self.inside.explained c.self.inside.slices
    c.push_one.ensures.ok c.push_one.ensures.fits c.push_one.ensures.err c.self.invariant
