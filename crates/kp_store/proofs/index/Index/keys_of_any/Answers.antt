use Rattle.std.proofs.Common.{ap, ◌∙◌}
use Rattle.std.specs.FinMap as finite
use Rattle.kp_store.specs.Indexes.{has}
use Rattle.kp_store.proofs.Ordered.{none_before}
use Rattle.kp_store.proofs.Unions.{union_more}
use Rattle.kp_store.proofs.index.Index.keys_of_any.Goals as goal

pub loop-tag-init : goal.loop-tag-init
loop-tag-init g c = λ k. ap (λ m. finite.contains_key m k) c.new-keys.ensures ∙ none_before k

pub loop-tag-preserved : goal.loop-tag-preserved
loop-tag-preserved g c = λ k.
    union_more (λ t. has g.T.PartialEq.eq c.args.self.now t k) c.args.tags.now c.loop-tag.tag-index c.tag-item.result _ _ c.loop-tag-test.true c.tag-item.is
    (c.in_ok-put_into.ensures k)
    (c.loop-tag.invariant k)
