use Rattle.std.proofs.Common.{ap, ◌∙◌}
use Rattle.kp_plane.specs.Parts.{table_in}
use Rattle.kp_plane.proofs.plane.Plane.into_parts.Goals as goal

pub returns-clause-table : goal.returns-clause-table
returns-clause-table c =
    c.into_parts-counts.ensures.table ∙ c.self.invariant.holds.history.table ∙ ap table_in c.self.view_is
