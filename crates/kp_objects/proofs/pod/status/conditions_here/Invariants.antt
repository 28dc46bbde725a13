use Rattle.std.proofs.Common.{◌≡◌, map, unwrap_or, find}
use Rattle.kp_json.specs.Places.{elements_of}
use Rattle.kp_json.specs.Views.{place_of, elements_left}
use Rattle.kp_row_defs.specs.Rows.{first_in, rows_fault}
use Rattle.kp_event_defs.specs.PodText.{condition_rows, is_readiness, holds}
use Rattle.kp_objects.proofs.pod.status.conditions_here.Given as goal

-- Whether the answer so far, or else the conditions that are left, say that the Pod is ready. None so far is at fault.
abbrev pub invariant-loop-element : goal.invariant-loop-element
invariant-loop-element l =
    (unwrap_or l.ready (holds (find is_readiness (elements_left l.element-iterator))) ≡ holds (find is_readiness (elements_of (place_of l.list))))
    × (first_in (map (rows_fault condition_rows) (elements_left l.element-iterator)) ≡ first_in (map (rows_fault condition_rows) (elements_of (place_of l.list))))
