use Rattle.std.proofs.Common.{◌≡◌}
use Rattle.kp_rules.proofs.chain_map.ChainMap.link_all.Given as goal

-- the chains stay
abbrev pub invariant-loop-index : goal.invariant-loop-index
invariant-loop-index l = l.self ≡ l.fn.self
