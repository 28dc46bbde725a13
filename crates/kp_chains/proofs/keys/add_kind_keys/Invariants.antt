use Rattle.std.proofs.Common.{◌≡◌, ◌++◌, map, take}
use Rattle.kp_types.specs.declared.chain.ChainKey.TheVariants.{Port}
use Rattle.kp_chains.proofs.keys.add_kind_keys.Given as goal

-- the keys of the kinds so far were added
abbrev pub invariant-loop-kind : goal.invariant-loop-kind
invariant-loop-kind l =
    l.own.items ≡ l.fn.own.items ++ map (λ kind. Port kind l.port) (take l.kind-index l.kinds)
