use Rattle.kp_chains.proofs.Counts.{next_count}
use Rattle.kp_chains.proofs.count.count_chains.Goals as goal

pub loop-chain-preserved : goal.loop-chain-preserved
loop-chain-preserved g c =
    next_count _ _ _ c.args.chains.now c.loop-chain.chain-index c.chain-item.result _ c.loop-chain.invariant
    c.count_rules.ensures c.as_slice.ensures c.loop-chain-test.true c.chain-item.is
