use Rattle.std.proofs.Common.{ap, ◌∙◌}
use Rattle.std.specs.FinMap as finite
use Rattle.std.proofs.lemmas.Result.{IfOk-weaker}
use Rattle.kp_writer.specs.Next as spec
use Rattle.kp_writer.proofs.MorePlaces.{place_entries}
use Rattle.kp_writer.proofs.next.NextChains.edits.Goals as goal

pub returns : goal.returns
returns c =
    let family = c.args.family in
    let before = c.args.table.now.chains in
    IfOk-weaker c.edits_of.result _ _
    (λ b is. is
    ∙ ap (spec.edits_of family before) (place_entries c.self.inside.places.entries
    c.edits_of.ensures.in_order)
    ∙ ap (λ n. spec.edits_of family before (finite.entries n.places)) c.self.view_is)
    c.edits_of.ensures.edits
