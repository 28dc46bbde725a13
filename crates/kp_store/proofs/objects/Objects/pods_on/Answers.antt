use Rattle.std.proofs.Common.{filter, ap, ◌∙◌}
use Rattle.std.proofs.lemmas.Result.{IfOk-weaker}
use Rattle.std.specs.FinMap as finite
use Rattle.kp_object_defs.specs.Objects.{Objects}
use Rattle.kp_store.specs.Indexes.{is_among}
use Rattle.kp_store.specs.LookUps.{is_on}
use Rattle.kp_store.specs.Tags.{tags_of_pod}
use Rattle.kp_store.specs.declared.tags.PodTag.TheVariants.{On}
use Rattle.kp_store.specs.contracts.tags.PodTagPartialEq.TheImpl as tag_eq
use Rattle.kp_store.proofs.Owners.{of_node}
use Rattle.kp_store.proofs.objects.Objects.pods_on.Goals as goal

pub returns : goal.returns
returns c =
    let pods = finite.values c.self.inside.pods in
    let node = c.args.node.now in
    IfOk-weaker c.found.result _ _ (λ ps is.
    is
    ∙ ap (λ n. filter (λ p. is_among tag_eq.ghosts.eq (tags_of_pod p) (On n)) pods) c.in_ok-copy.ensures
    ∙ of_node node pods
    ∙ ap (λ (o : Objects). filter (is_on node) (finite.values o.pods)) c.self.view_is) c.found.ensures
