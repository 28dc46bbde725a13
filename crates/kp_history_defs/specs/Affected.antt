-- The ports that an event may change, told by the objects before it and the event alone
-- (kube-proxy's and the EndpointSlice controller's event handlers name Services likewise): no
-- endpoint is looked at.
use Rattle.std.specs.Prelude.{◌&&◌, ◌||◌, Bool, true, false, List, Option, Some, None}
use Rattle.std.specs.List.{filter}
use Rattle.std.specs.FinMap as finite
use Rattle.kp_base.specs.declared.key.ObjectKey.{ObjectKey}
use Rattle.kp_base.specs.declared.key.PortKey.{PortKey}
use Rattle.kp_types.specs.Setting.{Settings}
use Rattle.kp_types.specs.declared.service.Service.{Service}
use Rattle.kp_types.specs.declared.slice.Slice.{Slice}
use Rattle.kp_types.specs.declared.pod.Pod.{Pod}
use Rattle.kp_types.specs.declared.event.Kind.TheVariants as kind
use Rattle.kp_types.specs.declared.event.Object.TheVariants as object
use Rattle.kp_types.specs.declared.event.Event.{Event}
use Rattle.kp_types.specs.declared.event.Event.TheVariants.{Apply, Delete}
use Rattle.kp_object_defs.specs.Objects.{Objects, objects_step}
use Rattle.kp_object_defs.specs.Desired.{has_selector, selects}
use Rattle.kp_object_defs.specs.Entries.{is_of_service}
use Rattle.kp_object_defs.specs.Packing.{same_object}
use Rattle.kp_history_defs.specs.Inputs.{ports_of_either}

-- there is a slice, and its label names this Service
abbrev pub is_slice_of : ObjectKey → Option Slice → Bool
is_slice_of service None = false
is_slice_of service (Some slice) = is_of_service service slice

-- there is a pod, and the Service selects it
abbrev pub selects_some : Service → Option Pod → Bool
selects_some s None = false
selects_some s (Some pod) = selects s pod

-- the controller is on, and there is a Service that it makes slices for, which selects the pod
-- before or after
abbrev pub is_pod_of : Bool → Option Service → Option Pod → Option Pod → Bool
is_pod_of controller None before after = false
is_pod_of controller (Some s) before after =
    (controller && has_selector s) && (selects_some s before || selects_some s after)

-- An event affects the ports of a Service: where it is about this Service; about a slice whose
-- label names it before or after; about a pod that it selects before or after, where the
-- controller makes slices for it; or about a Node, since the zones of nodes are the hints of any
-- endpoints.
abbrev pub affects : Settings → Objects → Event → ObjectKey → Bool
affects settings o (Apply (object.Service s)) service = same_object service s.key
affects settings o (Delete kind.Service key) service = same_object service key
affects settings o (Apply (object.EndpointSlice s)) service =
    is_slice_of service (finite.get o.slices s.key) || is_of_service service s
affects settings o (Delete kind.EndpointSlice key) service =
    is_slice_of service (finite.get o.slices key)
affects settings o (Apply (object.Pod p)) service =
    is_pod_of settings.config.controller (finite.get o.services service)
    (finite.get o.pods p.key) (Some p)
affects settings o (Delete kind.Pod key) service =
    is_pod_of settings.config.controller (finite.get o.services service)
    (finite.get o.pods key) None
affects settings o (Apply (object.Node n)) service = true
affects settings o (Delete kind.Node key) service = true

-- the ports that an event affects, of the Services before and after it, in order
abbrev pub affected_ports : Settings → Objects → Event → List PortKey
affected_ports settings o event =
    filter (λ key. affects settings o event key.object) (ports_of_either o (objects_step o event))
