use Rattle.std.proofs.Common.{◌≡◌, [], take}
use Rattle.std.specs.List.{fold}
use Rattle.kp_health.specs.Counted.{counted_all}
use Rattle.kp_health.proofs.count.addresses_of.Given as goal

-- the ports so far are counted
abbrev pub invariant-loop-endpoints : goal.invariant-loop-endpoints
invariant-loop-endpoints l =
    l.counted.keys ≡ fold (counted_all l.families) [] (take l.endpoints-index l.per_port)
