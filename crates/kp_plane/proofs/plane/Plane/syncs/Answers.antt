use Rattle.std.proofs.Common.{◌≤◌, length, subst, sum}
use Rattle.kp_history.proofs.Synced.{within}
use Rattle.kp_plane.specs.Invariant.{parts_of}
use Rattle.kp_plane.proofs.plane.Plane.syncs.Goals as goal

pub returns-clause-within : goal.returns-clause-within
returns-clause-within c =
    let s = c.self.inside in
    subst (λ q. sum q.counts ≤ length q.events) c.self.view_is
    (within (parts_of s.config s.journal s.history) c.self.invariant.holds.history.exact)
