use Rattle.std.proofs.Common.{◌≡◌, map, take}
use Rattle.kp_types.specs.declared.chain.ChainKey.TheVariants.{Sep}
use Rattle.kp_chains.proofs.keys.endpoint_keys.Given as goal

-- these are the keys of the endpoints so far
abbrev pub invariant-loop-endpoint : goal.invariant-loop-endpoint
invariant-loop-endpoint l = l.keys.items ≡ map (Sep l.port) (take l.endpoint-index l.endpoints)
