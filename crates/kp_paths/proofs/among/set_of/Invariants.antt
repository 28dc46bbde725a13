-- the set has the endpoints so far
use Rattle.std.proofs.Common.{◌≡◌, take}
use Rattle.kp_base.specs.declared.key.Endpoint.{Endpoint}
use Rattle.kp_chains.specs.Named.{has}
use Rattle.kp_table_defs.specs.Keys.{has_endpoint}
use Rattle.kp_paths.proofs.among.set_of.Given as goal

abbrev pub invariant-loop-endpoint : goal.invariant-loop-endpoint
invariant-loop-endpoint l =
    (e : Endpoint) → has l.set e ≡ has_endpoint (take l.endpoint-index l.endpoints) e
