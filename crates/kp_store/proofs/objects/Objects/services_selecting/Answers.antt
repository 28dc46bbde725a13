use Rattle.std.proofs.Common.{◌≡◌, List, map, Option, Some, None, refl, ap, ◌∙◌, Bor}
use Rattle.std.proofs.lemmas.Result.{IfOk-weaker}
use Rattle.std.specs.FinMap as finite
use Rattle.kp_base.specs.declared.key.ObjectKey.{ObjectKey}
use Rattle.kp_types.specs.declared.pod.Pod.{Pod}
use Rattle.kp_types.specs.declared.service.Service.{Service}
use Rattle.kp_object_defs.specs.Desired.{selects}
use Rattle.kp_object_defs.specs.Objects.{Objects}
use Rattle.kp_store.specs.LookUps.{selects_if, services_selecting}
use Rattle.kp_store.proofs.Found.{keys_passing, passes}
use Rattle.kp_store.proofs.objects.Objects.services_selecting.Goals as goal

one_test : (pod : Pod) (o : Option Service) → selects_if pod o ≡ passes (λ s. selects s pod) o
one_test pod None = refl
one_test pod (Some s) = refl

pub returns-clause-found : goal.returns-clause-found
returns-clause-found c =
    let pod = c.args.pod.now in
    let services = c.self.inside.services in
    IfOk-weaker c.copies.result _ _ (λ ks is.
    is
    ∙ ap (λ (qs : List (Bor ObjectKey)). map (λ q. q.now) qs) c.as_slice.ensures.value
    ∙ c.in_ok-keys-2.ensures
    ∙ keys_passing (λ s. s.key) (λ s. selects s pod) services c.self.invariant.services c.in_ok-keys.keys (λ k. c.in_ok-keys.ensures k ∙ one_test pod (finite.get services k))
    ∙ ap (λ (o : Objects). services_selecting o pod) c.self.view_is) c.copies.ensures
