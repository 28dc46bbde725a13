use Rattle.std.proofs.Common.{ap, ◌∙◌}
use Rattle.kp_table_defs.specs.Ranks.{has_chains_of, is_ranked}
use Rattle.kp_table_defs.specs.Rebuild.{TableParts}
use Rattle.kp_plane.specs.Parts.{table_in}
use Rattle.kp_plane.proofs.plane.Plane.table.Goals as goal

pub returns-clause-table : goal.returns-clause-table
returns-clause-table c = c.self.invariant.holds.history.table ∙ ap table_in c.self.view_is

pub returns-clause-ranked : goal.returns-clause-ranked
returns-clause-ranked c =
    ap (λ (t : TableParts). is_ranked t.chains)
    (c.self.invariant.holds.history.table ∙ ap table_in c.self.view_is)
    ∙ c.decides.ensures.ranked

pub returns-clause-built_in : goal.returns-clause-built_in
returns-clause-built_in c = λ family has.
    ap (λ (t : TableParts). has_chains_of family t.chains)
    (c.self.invariant.holds.history.table ∙ ap table_in c.self.view_is)
    ∙ c.decides.ensures.built_in family has
