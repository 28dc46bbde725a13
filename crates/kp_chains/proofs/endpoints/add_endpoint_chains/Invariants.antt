use Rattle.std.proofs.Common.{◌≡◌, ◌++◌, map, take}
use Rattle.kp_chains.specs.Named.{endpoint_row}
use Rattle.kp_chains.specs.Rows.{rows_of_texts}
use Rattle.kp_chains.proofs.endpoints.add_endpoint_chains.Given as goal

-- the chains of the endpoints so far were added
abbrev pub invariant-loop-endpoint : goal.invariant-loop-endpoint
invariant-loop-endpoint l =
    rows_of_texts l.rows.items ≡ rows_of_texts l.fn.rows.items ++ map (endpoint_row l.family l.info) (take l.endpoint-index l.endpoints)
