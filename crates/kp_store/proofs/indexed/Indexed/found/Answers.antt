use Rattle.std.proofs.Common.{filter, ap, ◌∙◌}
use Rattle.std.specs.FinMap as finite
use Rattle.std.proofs.lemmas.Result.{IfOk-weaker}
use Rattle.kp_store.specs.Indexes.{is_among}
use Rattle.kp_store.proofs.Found.{found_all}
use Rattle.kp_store.proofs.indexed.Indexed.found.Goals as goal

pub returns : goal.returns
returns g c =
    let same = g.T.PartialEq.eq in
    let tag = c.args.tag.now in
    IfOk-weaker c.found.result _ _ (λ xs is.
    is
    ∙ found_all same g.X.Tagged.tags tag c.self.inside.objects c.in_ok-bucket.bucket (λ k. c.in_ok-bucket.ensures k ∙ c.self.invariant tag k)
    ∙ ap (λ m. filter (λ x. is_among same (g.X.Tagged.tags x) tag) (finite.values m)) c.self.view_is) c.found.ensures
