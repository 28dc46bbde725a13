use Rattle.std.proofs.Common.{◌≡◌, map, take}
use Rattle.kp_choice_defs.specs.Names.{endpoint_chain_name}
use Rattle.kp_vmap.proofs.known.names_in.Given as goal

-- the endpoints so far have their names
abbrev pub invariant-loop-endpoint : goal.invariant-loop-endpoint
invariant-loop-endpoint l =
    l.names.items ≡ map (endpoint_chain_name l.namer l.key) (take l.endpoint-index l.endpoints)
