use Rattle.std.proofs.Common.{◌≡◌, ◌++◌, flat_map, map}
use Rattle.kp_blocks.specs.Joined.{block_rules}
use Rattle.kp_blocks.proofs.blocks.add_blocks.Given as goal

-- the rules of the blocks so far were added
abbrev pub invariant-loop-block : goal.invariant-loop-block
invariant-loop-block l =
    l.rules.items
    ≡ l.fn.rules.items ++ flat_map (block_rules l.at) (map (λ b. b.now) l.yielded)
