use Rattle.std.proofs.Common.{filter, ap, ◌∙◌}
use Rattle.std.specs.List.{list_any}
use Rattle.std.specs.FinMap as finite
use Rattle.std.proofs.lemmas.Result.{IfOk-weaker}
use Rattle.kp_store.specs.Indexes.{is_among}
use Rattle.kp_store.proofs.Unions.{found_any}
use Rattle.kp_store.proofs.indexed.Indexed.found_any.Goals as goal

pub returns : goal.returns
returns g c =
    let same = g.T.PartialEq.eq in
    let tags = c.args.tags.now in
    IfOk-weaker c.found.result _ _ (λ xs is.
    is
    ∙ found_any same g.X.Tagged.tags tags c.self.inside.objects c.in_ok-union.union (λ k. c.in_ok-union.ensures k ∙ (λ i. list_any (λ t. c.self.invariant t k i) tags))
    ∙ ap (λ m. filter (λ x. list_any (is_among same (g.X.Tagged.tags x)) tags) (finite.values m)) c.self.view_is) c.found.ensures
