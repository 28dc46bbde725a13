use Rattle.std.proofs.Common.{is_some, sym, ap, ◌∙◌}
use Rattle.std.specs.FinMap as finite
use Rattle.kp_base.specs.Keys.{key_cmp}
use Rattle.kp_store.specs.Indexes.{has, is_tagged}
use Rattle.kp_store.proofs.indexed.Indexed.new.Goals as goal

pub invariant_of-result : goal.invariant_of-result
invariant_of-result g c = λ t k.
    ap (λ bs. has g.T.PartialEq.eq bs t k) c.new-2.ensures
    ∙ ap is_some (finite.get-empty {X = Unit {0}} key_cmp k)
    ∙ ap (is_tagged g.T.PartialEq.eq g.X.Tagged.tags t) (sym (ap (λ m. finite.get m k) c.new.ensures ∙ finite.get-empty key_cmp k))
