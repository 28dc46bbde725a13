use Rattle.std.proofs.Common.{ap, ◌∙◌}
use Rattle.std.proofs.lemmas.Result.{IfOk-weaker}
use Rattle.std.specs.FinMap as finite
use Rattle.kp_object_defs.specs.Objects.{Objects}
use Rattle.kp_store.specs.LookUps.{selecting}
use Rattle.kp_store.proofs.objects.Objects.services_of_pod.Goals as goal

pub returns-in-Some : goal.returns-in-Some
returns-in-Some c =
    let now = c.args.self.now in
    IfOk-weaker c.services_selecting.result _ _ (λ ks is.
    is
    ∙ ap (selecting now) c.in-Some.ensures
    ∙ ap (λ (o : Objects). selecting now (finite.get o.pods c.args.pod.now)) c.self.view_is) c.services_selecting.ensures.found
