use Rattle.std.proofs.Common.{ap, ◌∙◌}
use Rattle.kp_plane.specs.Parts.{last_batch_in}
use Rattle.kp_plane.proofs.plane.Plane.last_batch.Goals as goal

pub returns : goal.returns
returns c = c.as_ref.ensures.value ∙ c.self.invariant.holds.history.last ∙ ap last_batch_in c.self.view_is
