use Rattle.std.proofs.Common.{List, map, filter, ap, ◌∙◌, Bor}
use Rattle.std.proofs.lemmas.Result.{IfOk-weaker}
use Rattle.std.specs.FinMap as finite
use Rattle.kp_lemmas.proofs.ListFacts.{filter_within}
use Rattle.kp_types.specs.declared.service.Service.{Service}
use Rattle.kp_object_defs.specs.Objects.{Objects}
use Rattle.kp_store.specs.Destinations.{answers}
use Rattle.kp_store.specs.contracts.tags.ServiceTagPartialEq.TheImpl as tag_eq
use Rattle.kp_store.specs.contracts.tags.ServiceTagEq.TheImpl.Laws as tag_laws
use Rattle.kp_store.proofs.Selected.{has_destination}
use Rattle.kp_store.proofs.objects.Objects.services_at.Goals as goal

pub returns-clause-found : goal.returns-clause-found
returns-clause-found c =
    let answering = answers c.args.proto c.args.address.now c.args.number in
    IfOk-weaker c.services_answering.result _ _ (λ ss is.
    is
    ∙ ap (λ (xs : List (Bor Service)). filter answering (map (λ s. s.now) xs)) c.as_slice.ensures.value
    ∙ ap (filter answering) c.in_ok-found.ensures
    ∙ filter_within _ answering (has_destination tag_eq.ghosts.eq tag_laws.laws-law c.args.proto c.args.address.now c.args.number) (finite.values c.self.inside.services)
    ∙ ap (λ (o : Objects). filter answering (finite.values o.services)) c.self.view_is) c.services_answering.ensures
