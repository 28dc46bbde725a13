use Rattle.std.proofs.Common.{◌≡◌, ap, sym, subst, ◌∙◌}
use Rattle.kp_table_defs.specs.Rebuild.{TableParts}
use Rattle.kp_plane.specs.Parts.{HasExactHistory, records_in}
use Rattle.kp_hub.specs.Ready.{AreReady}
use Rattle.kp_hub.specs.Taken.{plane_of}
use Rattle.kp_hub.proofs.Readiness.{records_ready}
use Rattle.kp_hub.proofs.intake.Intake.are_ready.Goals as goal

pub returns : goal.returns
returns g c =
    let config = g.J.Sharing.config in
    let p = plane_of config c.args.self.now in
    let same : c.self.inside.plane ≡ p = c.self.invariant.1.plane_is ∙ ap (plane_of config) c.self.view_is in
    subst (λ (s : TableParts). AreReady s (records_in p)) (sym c.requires)
    (records_ready c.exact_tables.ensures.full c.full_table_ranked_objects.ensures c.hashed_prefixed.ensures p
    (subst HasExactHistory same c.table.ensures.exact))
