use Rattle.std.proofs.Common.{map, ap, ◌∙◌}
use Rattle.kp_plane.specs.Parts.{table_in}
use Rattle.kp_hub.specs.Taken.{Taken, note_of, plane_of, records_at}
use Rattle.kp_hub.proofs.intake.Intake.into_parts.Goals as goal

pub returns-in-Ok-clause-notes : goal.returns-in-Ok-clause-notes
returns-in-Ok-clause-notes g c =
    c.from_vec.ensures
    ∙ (c.self.invariant.1.notes_are ∙ ap (λ (t : Taken). map note_of (records_at g.J.Sharing.config t)) c.self.view_is)

pub returns-in-Ok-clause-table : goal.returns-in-Ok-clause-table
returns-in-Ok-clause-table g c =
    c.into_parts-events.ensures.table
    ∙ ap table_in (c.self.invariant.1.plane_is ∙ ap (plane_of g.J.Sharing.config) c.self.view_is)
