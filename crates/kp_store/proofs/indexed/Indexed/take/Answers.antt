use Rattle.std.proofs.Common.{◌&&◌, not, sym, ap, ◌∙◌}
use Rattle.std.specs.FinMap as finite
use Rattle.kp_store.specs.Indexes.{has, is_tag_of, is_tagged}
use Rattle.kp_store.proofs.Changed.{take_ok}
use Rattle.kp_store.proofs.indexed.Indexed.take.Goals as goal

pub invariant_of-self : goal.invariant_of-self
invariant_of-self g c = λ t k.
    let same = g.T.PartialEq.eq in
    let key = c.args.key.now in
    c.trim.ensures t k
    ∙ ap (λ ts. not (is_tag_of same ts key t k) && has same c.self.inside.index t k) c.as_slice.ensures
    ∙ take_ok same g.X.Tagged.tags c.self.inside.objects key c.in_ok-old.old c.self.inside.index c.self.invariant c.in_ok-old.ensures.tags t k
    ∙ ap (λ m. is_tagged same g.X.Tagged.tags t (finite.get m k)) (sym c.take.ensures)
