use Rattle.std.proofs.Common.{length, filter, ap, ◌∙◌}
use Rattle.std.specs.FinMap as finite
use Rattle.kp_store.specs.Indexes.{bucket, is_among}
use Rattle.kp_store.proofs.Found.{count_all}
use Rattle.kp_store.proofs.indexed.Indexed.size.Goals as goal

pub returns : goal.returns
returns g c =
    let same = g.T.PartialEq.eq in
    let tag = c.args.tag.now in
    c.size.ensures
    ∙ count_all same g.X.Tagged.tags tag c.self.inside.objects (bucket same c.self.inside.index tag) (λ k. c.self.invariant tag k)
    ∙ ap (λ m. length (filter (λ x. is_among same (g.X.Tagged.tags x) tag) (finite.values m))) c.self.view_is
