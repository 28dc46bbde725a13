use Rattle.std.proofs.Common.{ap, ◌∙◌}
use Rattle.std.proofs.lemmas.Result.{IfOk-weaker}
use Rattle.std.specs.FinMap as finite
use Rattle.kp_object_defs.specs.Objects.{Objects}
use Rattle.kp_object_defs.specs.Entries.{slices_of}
use Rattle.kp_store.proofs.Owners.{of_owner}
use Rattle.kp_store.proofs.objects.Objects.slices_found.Goals as goal

pub returns : goal.returns
returns c =
    let service = c.args.service.now in
    IfOk-weaker c.found.result _ _ (λ ss is.
    is
    ∙ of_owner service (finite.values c.self.inside.slices)
    ∙ ap (λ (o : Objects). slices_of o service) c.self.view_is) c.found.ensures
