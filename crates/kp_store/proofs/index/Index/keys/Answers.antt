use Rattle.std.proofs.Common.{◌||◌, ap, ◌∙◌}
use Rattle.std.specs.FinMap as finite
use Rattle.kp_store.specs.Indexes.{has}
use mathlib.Core.Bool.{or-false}
use Rattle.kp_store.proofs.Ordered.{none_before}
use Rattle.kp_store.proofs.index.Index.keys.Goals as goal

pub returns : goal.returns
returns g c = λ k.
    let here = has g.T.PartialEq.eq c.args.self.now c.args.tag.now k in
    c.in_ok-put_into.ensures k
    ∙ ap (λ m. here || finite.contains_key m k) c.new-bucket.ensures
    ∙ ap (λ b. here || b) (none_before k)
    ∙ or-false here
