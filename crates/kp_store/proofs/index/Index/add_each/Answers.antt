use Rattle.std.proofs.Common.{◌||◌, ap, ◌∙◌}
use Rattle.kp_store.specs.Indexes.{is_pair}
use Rattle.kp_store.proofs.Buckets.{add_step}
use Rattle.kp_store.proofs.index.Index.add_each.Goals as goal

pub loop-tag-preserved : goal.loop-tag-preserved
loop-tag-preserved g c = λ t k.
    c.in_ok-put.ensures.ok t k
    ∙ ap (λ b. is_pair g.T.PartialEq.eq c.tag-item.result c.args.key.now t k || b) (c.loop-tag.invariant t k)
    ∙ add_step g.T.PartialEq.eq g.met.T.Eq.laws c.args.tags.now c.loop-tag.tag-index c.tag-item.result c.loop-tag-test.true c.tag-item.is c.args.key.now t k _
