use Rattle.std.proofs.Common.{◌≡◌, ◌++◌, take}
use Rattle.kp_blocks.specs.Joined.{block_rules}
use Rattle.kp_blocks.proofs.blocks.add_block.Given as goal

-- the rules of the chains so far were added
abbrev pub invariant-loop-chain : goal.invariant-loop-chain
invariant-loop-chain l =
    l.rules.items ≡ l.fn.rules.items ++ block_rules l.at (take l.chain-index l.block)
