use Rattle.std.proofs.Common.{◌≡◌, ◌+◌, take}
use Rattle.kp_chains.specs.Rows.{rows_of_texts, rule_count}
use Rattle.kp_chains.proofs.count.count_chains.Given as goal

-- a step was taken for each rule of the chains so far
abbrev pub invariant-loop-chain : goal.invariant-loop-chain
invariant-loop-chain g l = l.steps ≡ l.fn.steps + rule_count (rows_of_texts (take l.chain-index l.chains))
