use Rattle.std.proofs.Common.{subst}
use Rattle.kp_store.specs.Touched.{is_touched}
use Rattle.kp_plane.specs.Parts.{objects_before, objects_in, settings_in}
use Rattle.kp_plane.specs.Past.{LeadPastOthers}
use Rattle.kp_plane.proofs.plane.Plane.touched.Goals as goal

pub returns : goal.returns
returns c =
    subst (λ q. LeadPastOthers (settings_in q) (objects_before q) (objects_in q)
    (is_touched c.self.inside.ports.last)) c.self.view_is c.self.invariant.holds.ports.last
