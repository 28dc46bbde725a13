use Rattle.std.proofs.Common.{◌≡◌, ◌++◌, map, take}
use Rattle.kp_chains.specs.Named.{seen_rule}
use Rattle.kp_chains.proofs.lists.add_seen_within.Given as goal

-- the rules for the endpoints so far were added
abbrev pub invariant-loop-endpoint : goal.invariant-loop-endpoint
invariant-loop-endpoint l =
    l.rules.items ≡ l.fn.rules.items ++ map (seen_rule l.seconds) (take l.endpoint-index l.endpoints)
