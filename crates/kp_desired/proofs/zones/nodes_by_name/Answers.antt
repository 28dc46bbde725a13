use Rattle.std.proofs.Common.{ap, sym, refl, ◌∙◌}
use Rattle.std.specs.FinMap.{put}
use Rattle.kp_base.specs.Keys.{text_cmp}
use Rattle.kp_object_defs.proofs.InOrder.{insert-through, by_key-take}
use Rattle.kp_desired.specs.ByName.{shown}
use Rattle.kp_desired.proofs.zones.nodes_by_name.Goals as goal

pub loop-node-preserved : goal.loop-node-preserved
loop-node-preserved c =
    let node = c.node-item.result in
    ap shown c.in_ok-insert.ensures.entries
    ∙ insert-through text_cmp (λ b. b.now) (λ b. b.now) (λ a b. refl) c.loop-node.by_name.entries _ _
    ∙ ap (put text_cmp node.name node) c.loop-node.invariant
    ∙ sym (by_key-take text_cmp (λ n. n.name) c.args.nodes.now c.loop-node.node-index node c.loop-node-test.true c.node-item.is)
