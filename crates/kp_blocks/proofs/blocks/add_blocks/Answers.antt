use Rattle.std.proofs.Common.{◌++◌, ap, append_assoc, flat_map, map, ◌∙◌}
use Rattle.kp_blocks.specs.Joined.{block_rules}
use Rattle.kp_blocks.proofs.BlockValues.{joined_more}
use Rattle.kp_blocks.proofs.blocks.add_blocks.Goals as goal

-- one block more
pub loop-block-preserved : goal.loop-block-preserved
loop-block-preserved c =
    let rules = block_rules c.args.at.now in
    let start = c.args.rules.now.items in
    c.in_ok-add_block.ensures
    ∙ ap (λ b. c.loop-block.rules.items ++ rules b) c.as_slice.ensures
    ∙ ap (λ rs. rs ++ rules c.in-Some.block.now) c.loop-block.invariant
    ∙ append_assoc start (flat_map rules (map (λ b. b.now) c.loop-block.yielded))
    (rules c.in-Some.block.now)
    ∙ ap (λ rs. start ++ rs) (joined_more rules c.loop-block.yielded c.in-Some.block)
