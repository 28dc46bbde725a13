-- Worked examples of decisions by the objects after events (Kubernetes API concepts, watch events).
use Rattle.std.specs.Prelude.{◌≡◌, ℕ, true, false, List, [], ◌∷◌, codes, Some}
use Rattle.kp_types.specs.declared.event.Event.{Event}
use Rattle.kp_types.specs.declared.event.Event.TheVariants.{Apply, Delete}
use Rattle.kp_types.specs.declared.event.Kind.TheVariants as kind
use Rattle.kp_types.specs.declared.event.Object.TheVariants as object
use Rattle.kp_types.specs.declared.pod.Pod.{Pod}
use Rattle.kp_types.specs.declared.slice.Slice.{Slice}
use Rattle.kp_types.specs.declared.slice.SliceEndpoint.{SliceEndpoint}
use Rattle.kp_types.specs.declared.verdict.Verdict.{Verdict}
use Rattle.kp_types.specs.declared.verdict.Verdict.TheVariants.{To, Rejected, LeftAlone}
use Rattle.kp_choice_defs.specs.Draws.{draw_of_list}
use Rattle.kp_object_defs.specs.Objects.{objects_after}
use Rattle.kp_door_defs.specs.Decision.{decision_in}
use Rattle.kp_worked.specs.Setting.{ipv4, setting, default_key, web, ready_at, first, second, third, hinted, slice_of, ep1, ep2, no_lists, other_pod, to_web}
use Rattle.kp_worked.specs.Decisions.{two}
use Rattle.kp_worked.specs.Wanted.{selecting, pod_a, pod_b, pod_c}

-- the verdict on a pod's packet to the Service, after events
abbrev pub verdict_after : List Event → List ℕ → Verdict
verdict_after events draws =
    (decision_in setting (objects_after events) (to_web other_pod) (draw_of_list draws)
    no_lists).verdict

-- the Service is applied
abbrev pub apply_web : Event
apply_web = Apply (object.Service web)

-- its slice is
abbrev pub apply_endpoints : List SliceEndpoint → Event
apply_endpoints endpoints = Apply (object.EndpointSlice (slice_of (codes "web") endpoints))

-- a pod is
abbrev pub apply_pod : Pod → Event
apply_pod pod = Apply (object.Pod pod)

-- the node is, in the zone a
abbrev pub apply_node : Event
apply_node = Apply (object.Node (record { name = codes "n1"; zone = Some (codes "a") }))

-- the Service and its slice
abbrev pub served : List Event
served = apply_web ∷ apply_endpoints two ∷ []

-- a packet goes to the endpoint of the slice that is drawn
abbrev pub Served : Type 0
Served = verdict_after served (0 ∷ []) ≡ To ep1 false

-- the same in another order
abbrev pub slice_first : List Event
slice_first = apply_endpoints two ∷ apply_web ∷ []

-- a packet goes the same way
abbrev pub SliceFirst : Type 0
SliceFirst = verdict_after slice_first (0 ∷ []) ≡ To ep1 false

-- the slice once more, without the first endpoint
abbrev pub replaced : List Event
replaced = apply_web ∷ apply_endpoints two ∷ apply_endpoints (second ∷ []) ∷ []

-- a slice that is applied anew stands in place of the old one
abbrev pub Replaced : Type 0
Replaced = verdict_after replaced (0 ∷ []) ≡ To ep2 false

-- the Service is deleted again
abbrev pub deleted : List Event
deleted = apply_web ∷ apply_endpoints two ∷ Delete kind.Service (default_key (codes "web")) ∷ []

-- a Service that is deleted takes no packet
abbrev pub Deleted : Type 0
Deleted = verdict_after deleted [] ≡ LeftAlone

-- a Service that was never there is deleted
abbrev pub deleted_absent : List Event
deleted_absent = apply_web ∷ apply_endpoints two ∷ Delete kind.Service (default_key (codes "other")) ∷ []

-- deleting what is absent changes nothing
abbrev pub DeletedAbsent : Type 0
DeletedAbsent = verdict_after deleted_absent (0 ∷ []) ≡ To ep1 false

-- the slice of another Service
abbrev pub of_other_service : List Event
of_other_service = apply_web ∷ Apply (object.EndpointSlice (slice_of (codes "other") two)) ∷ []

-- a slice of another Service doesn't count
abbrev pub OfOtherService : Type 0
OfOtherService = verdict_after of_other_service [] ≡ Rejected

-- two endpoints in the node's zone, and one in another
abbrev pub in_zone : List Event
in_zone =
    apply_node ∷ apply_web
    ∷ apply_endpoints (hinted (codes "a") first ∷ hinted (codes "a") second ∷ hinted (codes "b") third ∷ [])
    ∷ []

-- hints count by the zone of the node's own object
abbrev pub InZone : Type 0
InZone = verdict_after in_zone [] ≡ To ep2 false

-- ---- With the controller

-- a slice that the controller manages, of which one endpoint is of no pod
abbrev pub managed : Slice
managed = record (slice_of (codes "web") (first ∷ ready_at (ipv4 10 244 1 9) (codes "n1") ∷ [])) {
  managed = true;
}

-- pods in every state, and the managed slice
abbrev pub pods_and_slice : List Event
pods_and_slice =
    apply_node ∷ Apply (object.Service selecting) ∷ apply_pod pod_a ∷ apply_pod pod_b ∷ apply_pod pod_c
    ∷ Apply (object.EndpointSlice managed) ∷ []

-- the ready pod alone counts
abbrev pub PodsAndSlice : Type 0
PodsAndSlice = verdict_after pods_and_slice [] ≡ To ep1 false

-- a pod that isn't ready
abbrev pub pod_not_ready : List Event
pod_not_ready = Apply (object.Service selecting) ∷ apply_pod (record pod_a { ready = false }) ∷ []

-- it gives no endpoint to send to
abbrev pub PodNotReady : Type 0
PodNotReady = verdict_after pod_not_ready [] ≡ Rejected

-- a pod that has finished
abbrev pub pod_finished : List Event
pod_finished = Apply (object.Service selecting) ∷ apply_pod (record pod_a { finished = true }) ∷ []

-- it gives no endpoint either
abbrev pub PodFinished : Type 0
PodFinished = verdict_after pod_finished [] ≡ Rejected
