use Rattle.std.proofs.Common.{◌≡◌, ◌++◌, not, take}
use Rattle.std.specs.List.{filter}
use Rattle.kp_table_defs.specs.Keys.{has_endpoint}
use Rattle.kp_chains.proofs.endpoints.add_others.Given as goal

-- those endpoints so far that aren't among the others were added
abbrev pub invariant-loop-endpoint : goal.invariant-loop-endpoint
invariant-loop-endpoint l =
    l.all.items ≡ l.fn.all.items ++ filter (λ e. not (has_endpoint l.fn.others e)) (take l.endpoint-index l.endpoints)
