use Rattle.std.proofs.Common.{◌&&◌, not, sym, ap, ◌∙◌}
use Rattle.kp_lemmas.proofs.Orders.{one_from_tie}
use Rattle.kp_base.proofs.KeyOrder.{key_exact}
use Rattle.kp_store.specs.Indexes.{has, is_tag_of}
use Rattle.kp_store.proofs.Buckets.{undone}
use Rattle.kp_store.proofs.index.Index.add_all.Goals as goal

pub returns-in-Err-clause-err : goal.returns-in-Err-clause-err
returns-in-Err-clause-err g c = λ t k.
    let same = g.T.PartialEq.eq in
    let key = c.args.key.now in
    let tags = c.args.tags.now in
    let partly = c.in-Err.ensures.err in
    c.trim.ensures t k
    ∙ ap (λ b. not (is_tag_of same tags key t k) && b) (partly.1 t k)
    ∙ undone same g.met.T.Eq.laws tags partly.0 key t k (has same c.args.self.now t k) (λ e new. ap (has same c.args.self.now t) (one_from_tie key_exact k key e) ∙ c.requires t new)
