use Rattle.std.proofs.Common.{◌≡◌, ◌++◌, drop}
use Rattle.kp_udp_endpoints.proofs.changed.push_from.Given as goal

-- those that are left come behind those so far
abbrev pub invariant-loop-at : goal.invariant-loop-at
invariant-loop-at l =
    l.endpoints.items ++ drop l.at l.added ≡ l.initial.endpoints.items ++ drop l.from l.added
