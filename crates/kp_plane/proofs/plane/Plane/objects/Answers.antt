use Rattle.std.proofs.Common.{◌≡◌, ap, arith, ◌∙◌}
use Rattle.kp_plane.specs.Invariant.{parts_of}
use Rattle.kp_plane.specs.Parts.{objects_in, uncovered_in}
use Rattle.kp_plane.proofs.Synced.{at_last}
use Rattle.kp_plane.proofs.plane.Plane.objects.Goals as goal

pub returns : goal.returns
returns c =
    let s = c.self.inside in
    let p = parts_of s.config s.journal s.history in
    let is = c.self.invariant.holds in
    let none : uncovered_in p ≡ 0 = ap uncovered_in c.self.view_is ∙ c.requires in
    let covered = is.history.covered in
    let later = is.ports.since.later in
    let few = is.ports.place.within in
    at_last p s.history s.ports.latest is.history is.ports.place
    (omega (arith, none, covered, later, few))
    ∙ ap objects_in c.self.view_is
