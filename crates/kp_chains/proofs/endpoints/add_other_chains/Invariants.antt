use Rattle.std.proofs.Common.{◌≡◌, ◌++◌, map, take}
use Rattle.kp_chains.specs.Named.{endpoint_row, not_among}
use Rattle.kp_chains.specs.Rows.{rows_of_texts}
use Rattle.kp_chains.proofs.endpoints.add_other_chains.Given as goal

-- the chains of those endpoints so far that aren't among the others were added
abbrev pub invariant-loop-endpoint : goal.invariant-loop-endpoint
invariant-loop-endpoint l =
    rows_of_texts l.rows.items
    ≡ rows_of_texts l.fn.rows.items ++ map (endpoint_row l.family l.info) (not_among l.info.lists.cluster (take l.endpoint-index l.endpoints))
