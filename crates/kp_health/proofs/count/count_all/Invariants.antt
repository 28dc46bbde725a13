use Rattle.std.proofs.Common.{◌≡◌, take}
use Rattle.kp_health.specs.Counted.{counted_all}
use Rattle.kp_health.proofs.count.count_all.Given as goal

-- the endpoints so far are counted
abbrev pub invariant-loop-endpoint : goal.invariant-loop-endpoint
invariant-loop-endpoint l =
    l.counted.keys
    ≡ counted_all l.families l.initial.counted.keys (take l.endpoint-index l.endpoints)
