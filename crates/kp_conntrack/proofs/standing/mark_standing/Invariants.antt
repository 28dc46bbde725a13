use Rattle.std.proofs.Common.{List, ℕ, map}
use Rattle.std.specs.List.{flat_map}
use Rattle.kp_conntrack.specs.Buckets.{endpoint_place}
use Rattle.kp_conntrack.specs.Laid.{IsIndexed}
use Rattle.kp_conntrack.specs.Marked.{AreMarkedBy}
use Rattle.kp_conntrack.specs.Standing.{udp_targets_at}
use Rattle.kp_conntrack.proofs.standing.mark_standing.Given as goal

abbrev pub invariant-loop-at : goal.invariant-loop-at
invariant-loop-at l =
    (kept : List ℕ) → IsIndexed l.rows kept endpoint_place l.endpoints
    → AreMarkedBy l.rows kept (flat_map (udp_targets_at l.table.chains) (map (λ p. p.now) l.yielded)) l.marks
