use Rattle.std.proofs.Common.{◌&&◌, not, ap, ◌∙◌}
use Rattle.kp_store.proofs.Buckets.{trim_step, trim_none}
use Rattle.kp_store.specs.Indexes.{is_pair}
use Rattle.kp_store.proofs.index.Index.trim.Goals as goal

pub loop-tag-init : goal.loop-tag-init
loop-tag-init g c = λ t k. trim_none _ _

pub loop-tag-preserved : goal.loop-tag-preserved
loop-tag-preserved g c = λ t k.
    c.remove.ensures t k
    ∙ ap (λ b. not (is_pair g.T.PartialEq.eq c.tag-item.result c.args.key.now t k) && b) (c.loop-tag.invariant t k)
    ∙ trim_step g.T.PartialEq.eq g.met.T.Eq.laws c.args.tags.now c.loop-tag.tag-index c.tag-item.result c.loop-tag-test.true c.tag-item.is c.args.key.now t k _
