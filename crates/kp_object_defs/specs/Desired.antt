-- The endpoints that the EndpointSlice controller wants for a Service, of its Pods (Kubernetes
-- documents on Services and EndpointSlices; KEP-752, KEP-1669; same-zone hints after the documents
-- on traffic distribution). Which pods are passed over is this project's choice where the documents
-- are silent.
use Rattle.std.specs.Prelude.{ℕ, ◌&&◌, ◌||◌, Bool, true, false, List, [], ◌∷◌, not, cond, bytes_eq, Option, Some, None, option_map, option_and_then, reverse}
use Rattle.std.specs.List.{list_any, list_all, find, filter, filter_map}
use Rattle.std.specs.FinMap as finite
pub use Rattle.kp_lemmas.specs.Lists.{is_empty}
use Rattle.kp_base.specs.Net.{AddressParts, same_family}
use Rattle.kp_base.specs.Keys.{key_cmp}
use Rattle.kp_base.specs.declared.address.Family.{Family}
use Rattle.kp_base.specs.declared.address.Family.TheVariants.{V4, V6}
use Rattle.kp_base.specs.declared.port.Proto.{Proto}
use Rattle.kp_base.specs.declared.key.Pair.{Pair}
use Rattle.kp_types.specs.Setting.{FamilyConfig}
use Rattle.kp_types.specs.Ports.{same_proto}
use Rattle.kp_types.specs.declared.service.Service.{Service}
use Rattle.kp_types.specs.declared.service.ServiceKind.{ServiceKind}
use Rattle.kp_types.specs.declared.service.ServiceKind.TheVariants.{ClusterIp, NodePort, LoadBalancer, ExternalName}
use Rattle.kp_types.specs.declared.service.ServicePort.{ServicePort}
use Rattle.kp_types.specs.declared.service.TargetPort.{TargetPort}
use Rattle.kp_types.specs.declared.service.TargetPort.TheVariants.{Number, Named}
use Rattle.kp_types.specs.declared.slice.SlicePort.{SlicePort}
use Rattle.kp_types.specs.declared.slice.SliceEndpoint.{SliceEndpoint}
use Rattle.kp_types.specs.declared.slice.Wanted.{Wanted}
use Rattle.kp_types.specs.declared.pod.Pod.{Pod}
use Rattle.kp_types.specs.declared.pod.Node.{Node}
use Rattle.kp_object_defs.specs.Objects.{Objects, zone_of}
use Rattle.kp_object_defs.specs.Order.{by_key, values_of}

-- a Service of this type is only another name
abbrev pub is_external_name : ServiceKind → Bool
is_external_name ExternalName = true
is_external_name ClusterIp = false
is_external_name NodePort = false
is_external_name LoadBalancer = false

-- the controller makes slices for Services with a selector that aren't only another name
abbrev pub has_selector : Service → Bool
has_selector s = not (is_empty s.selector) && not (is_external_name s.kind)

-- the controller is on, and makes slices for the Service
abbrev pub is_reconciled : FamilyConfig → Service → Bool
is_reconciled config s = config.controller && has_selector s

-- the pod has a label
abbrev pub has_label : Pod → Pair → Bool
has_label pod term =
    list_any (λ l. bytes_eq l.key term.key && bytes_eq l.value term.value) pod.labels

-- the Service selects the pod: one namespace, and each term of the selector is among the labels
abbrev pub selects : Service → Pod → Bool
selects s pod =
    has_selector s && bytes_eq s.key.namespace pod.key.namespace
    && list_all (has_label pod) s.selector

-- the number of a target port at a pod: itself, or that of the first container port of the name and
-- protocol
abbrev pub target_number : Pod → Proto → TargetPort → Option ℕ
target_number pod proto (Number n) = Some n
target_number pod proto (Named name) =
    option_map (λ c. c.port)
    (find (λ c. bytes_eq c.name name && same_proto c.proto proto) pod.ports)

-- a Service port as a pod resolves it
abbrev pub resolved_port : Pod → ServicePort → Option SlicePort
resolved_port pod p =
    option_map (λ n. record { name = p.name; proto = p.proto; port = Some n })
    (target_number pod p.proto p.target)

-- the Service's ports that a pod resolves, in their order
abbrev pub resolved_ports : Service → Pod → List SlicePort
resolved_ports s pod = filter_map (resolved_port pod) s.ports

-- an address of a family
abbrev pub address_in : Family → AddressParts → Option AddressParts
address_in family a = cond (same_family a.family family) (Some a) None

-- a hint to a zone, if there are to be hints
abbrev pub zone_hints : Bool → Option (List ℕ) → List (List ℕ)
zone_hints true (Some zone) = zone ∷ []
zone_hints true None = []
zone_hints false _ = []

-- the endpoint of a pod at an address, in a zone
abbrev pub entry_of : Service → Pod → Option (List ℕ) → AddressParts → SliceEndpoint
entry_of s pod zone address = record {
  address = Some address;
  ready = s.publish_not_ready || (pod.ready && not pod.deleting);
  serving = pod.ready;
  terminating = pod.deleting;
  node = pod.node;
  zone = zone;
  hints = zone_hints s.same_zone zone;
  pod = Some pod.key;
}

-- an endpoint with these ports, of which there is one at least
abbrev pub with_ports : Pod → SliceEndpoint → List SlicePort → Option Wanted
with_ports pod entry [] = None
with_ports pod entry (p ∷ ps) = Some (record { pod = pod.key; ports = p ∷ ps; entry = entry })

-- a family is one of the Service's (Kubernetes documents on IPv4/IPv6 dual-stack)
abbrev pub has_family : Family → Service → Bool
has_family family s = list_any (λ f. same_family f family) s.families

-- the address of a pod in a family
abbrev pub pod_address : Family → Pod → Option AddressParts
pod_address V4 pod = option_and_then (address_in V4) pod.address
pod_address V6 pod = option_and_then (address_in V6) pod.address6

-- the endpoint that a Service wants of a selected pod in one of its families, on a node with this
-- zone: none of a pod that has finished, has no address of the family or resolves no port
abbrev pub desired_in_zone : Family → Service → Pod → Option (List ℕ) → Option Wanted
desired_in_zone family s pod zone =
    cond (not (has_family family s) || pod.finished) None
    (option_and_then (λ a. with_ports pod (entry_of s pod zone a) (resolved_ports s pod))
    (pod_address family pod))

-- the endpoint that a Service wants of a selected pod, with the zones of nodes
abbrev pub desired_of : Family → (List ℕ → Option (List ℕ)) → Service → Pod → Option Wanted
desired_of family zone_at s pod = desired_in_zone family s pod (option_and_then zone_at pod.node)

-- the endpoints that a Service wants of pods, in their order
abbrev pub desired_from : Family → (List ℕ → Option (List ℕ)) → Service → List Pod → List Wanted
desired_from family zone_at s pods =
    filter_map (desired_of family zone_at s) (filter (selects s) pods)

-- the zone of the node of this name among nodes, if it has one; of nodes of one name the last
-- counts
abbrev pub zone_among : List Node → List ℕ → Option (List ℕ)
zone_among nodes name =
    option_and_then (λ n. n.zone) (find (λ n. bytes_eq n.name name) (reverse nodes))

-- pods in order of their names; of pods of one name the last counts
abbrev pub in_name_order : List Pod → List Pod
in_name_order pods = values_of (by_key key_cmp (λ p. p.key) pods)

-- the endpoints that a Service wants of pods, on nodes, each in any order: in order of the pods'
-- names
abbrev pub desired_among : Family → Service → List Pod → List Node → List Wanted
desired_among family s pods nodes =
    filter_map (desired_of family (zone_among nodes) s) (in_name_order (filter (selects s) pods))

-- the endpoints that the controller wants for a Service, in order of the pods' names
abbrev pub desired_endpoints_of : Family → Objects → Service → List Wanted
desired_endpoints_of family o s = desired_from family (zone_of o) s (finite.values o.pods)
