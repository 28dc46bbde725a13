use Rattle.std.proofs.Common.{◌++◌, List, ℕ, take}
use Rattle.std.specs.List.{filter_map}
use Rattle.kp_base.specs.declared.key.Endpoint.{Endpoint}
use Rattle.kp_conntrack.specs.Buckets.{endpoint_place}
use Rattle.kp_conntrack.specs.Laid.{IsIndexed}
use Rattle.kp_conntrack.specs.Marked.{AreMarkedBy}
use Rattle.kp_conntrack.specs.Standing.{udp_target}
use Rattle.kp_conntrack.proofs.standing.mark_targets.Given as goal

abbrev pub invariant-loop-rule : goal.invariant-loop-rule
invariant-loop-rule l =
    (kept : List ℕ) (others : List Endpoint) → IsIndexed l.rows kept endpoint_place l.endpoints
    → AreMarkedBy l.rows kept others l.fn.marks
    → AreMarkedBy l.rows kept (others ++ filter_map udp_target (take l.rule-index l.rules)) l.marks
