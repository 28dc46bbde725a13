use Rattle.std.proofs.Common.{◌≡◌}
use Rattle.kp_rules.proofs.chain_map.ChainMap.link_index.Given as goal

-- the chains stay
abbrev pub invariant-loop-place : goal.invariant-loop-place
invariant-loop-place l = l.self ≡ l.fn.self
