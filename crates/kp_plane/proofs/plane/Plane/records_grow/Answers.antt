use Rattle.std.proofs.Common.{◌≡◌, [], ◌∷◌, ◌++◌, subst}
use Rattle.kp_history.proofs.Synced.{records_next}
use Rattle.kp_plane.specs.Invariant.{parts_of}
use Rattle.kp_plane.specs.Parts.{next_record, records_in, synced}
use Rattle.kp_plane.proofs.plane.Plane.records_grow.Goals as goal

pub returns : goal.returns
returns c =
    let p = parts_of c.self.inside.config c.self.inside.journal c.self.inside.history in
    subst (λ q. records_in (synced q) ≡ records_in q ++ next_record q ∷ []) c.self.view_is
    (records_next p c.self.invariant.holds.history.exact c.sync_records.ensures.grow)
