-- The Services that an event touches: those whose ports may be known otherwise after it, told by
-- the objects before it and the event alone (kube-proxy's and the EndpointSlice controller's event
-- handlers name Services likewise; that a node counts by its zone alone is this project's choice).
use Rattle.std.specs.Prelude.{ℕ, ◌&&◌, ◌||◌, Bool, false, not, bytes_eq, List, Option, Some, None}
use Rattle.std.specs.List.{filter, list_any}
use Rattle.std.specs.Option.{option_eq}
use Rattle.std.specs.Ordering.{eq_by_cmp}
use Rattle.std.specs.FinMap as finite
use Rattle.kp_base.specs.Keys.{key_cmp}
use Rattle.kp_base.specs.declared.key.ObjectKey.{ObjectKey}
use Rattle.kp_types.specs.declared.service.Service.{Service}
use Rattle.kp_types.specs.declared.slice.Slice.{Slice}
use Rattle.kp_types.specs.declared.pod.Pod.{Pod}
use Rattle.kp_types.specs.declared.pod.Node.{Node}
use Rattle.kp_types.specs.declared.event.Kind.{Kind}
use Rattle.kp_types.specs.declared.event.Kind.TheVariants as kind
use Rattle.kp_types.specs.declared.event.Object.{Object}
use Rattle.kp_types.specs.declared.event.Object.TheVariants as object
use Rattle.kp_types.specs.declared.event.Event.{Event}
use Rattle.kp_types.specs.declared.event.Event.TheVariants.{Apply, Delete}
use Rattle.kp_object_defs.specs.Objects.{Objects, zone_of}
use Rattle.kp_object_defs.specs.Desired.{selects}
use Rattle.kp_object_defs.specs.Entries.{is_of_service, is_on_node}

-- this is the key
abbrev pub is_key : ObjectKey → ObjectKey → Bool
is_key key service = eq_by_cmp key_cmp service key

-- there is a slice, and its label names the Service of this key
abbrev pub names_service : Option Slice → ObjectKey → Bool
names_service None service = false
names_service (Some slice) service = is_of_service service slice

-- there is a Service, and it selects the pod
abbrev pub selects_pod : Option Service → Pod → Bool
selects_pod None pod = false
selects_pod (Some s) pod = selects s pod

-- there is a pod, and the Service of this key selects it
abbrev pub is_selected : Objects → Option Pod → ObjectKey → Bool
is_selected o None service = false
is_selected o (Some pod) service = selects_pod (finite.get o.services service) pod

-- the Service of this key selects a pod on the node of this name
abbrev pub selects_on : Objects → List ℕ → ObjectKey → Bool
selects_on o name service =
    list_any (λ pod. is_selected o (Some pod) service)
    (filter (λ pod. is_on_node name pod.node) (finite.values o.pods))

-- A slice touches the Services that its label names before and after.
abbrev pub slice_touches : Option Slice → Option Slice → ObjectKey → Bool
slice_touches before after service = names_service before service || names_service after service

-- A pod touches the Services that select it before and after, where the controller makes slices.
abbrev pub pod_touches : Bool → Objects → Option Pod → Option Pod → ObjectKey → Bool
pod_touches controller o before after service =
    controller && (is_selected o before service || is_selected o after service)

-- Another zone of a node touches all Services where it is the proxy's own node, and otherwise those
-- that select a pod on it, where the controller makes slices.
abbrev pub zone_touches : List ℕ → Bool → Objects → List ℕ → ObjectKey → Bool
zone_touches own controller o name service =
    bytes_eq name own || (controller && selects_on o name service)

-- the node of this name, which has this zone after the event
abbrev pub node_touches : List ℕ → Bool → Objects → List ℕ → Option (List ℕ) → ObjectKey → Bool
node_touches own controller o name zone service =
    not (option_eq bytes_eq (zone_of o name) zone) && zone_touches own controller o name service

-- there is a node, and it goes
abbrev pub lost_node_touches : List ℕ → Bool → Objects → Option Node → ObjectKey → Bool
lost_node_touches own controller o None service = false
lost_node_touches own controller o (Some n) service =
    node_touches own controller o n.name None service

-- An apply touches the Service of this key, on the node of this name, where the controller makes
-- slices or doesn't.
abbrev pub apply_touches : List ℕ → Bool → Objects → Object → ObjectKey → Bool
apply_touches own controller o (object.Service s) service = is_key s.key service
apply_touches own controller o (object.EndpointSlice s) service =
    slice_touches (finite.get o.slices s.key) (Some s) service
apply_touches own controller o (object.Pod p) service =
    pod_touches controller o (finite.get o.pods p.key) (Some p) service
apply_touches own controller o (object.Node n) service =
    node_touches own controller o n.name n.zone service

-- a delete does
abbrev pub delete_touches : List ℕ → Bool → Objects → Kind → ObjectKey → ObjectKey → Bool
delete_touches own controller o kind.Service key service = is_key key service
delete_touches own controller o kind.EndpointSlice key service =
    slice_touches (finite.get o.slices key) None service
delete_touches own controller o kind.Pod key service =
    pod_touches controller o (finite.get o.pods key) None service
delete_touches own controller o kind.Node key service =
    lost_node_touches own controller o (finite.get o.nodes key) service

-- an event does
abbrev pub touches : List ℕ → Bool → Objects → Event → ObjectKey → Bool
touches own controller o (Apply object) service = apply_touches own controller o object service
touches own controller o (Delete kind key) service =
    delete_touches own controller o kind key service
