-- Objects whose numbers are within the bounds of what they are: addresses of their family (RFC 791,
-- 3.2; RFC 4291, 2), ranges with no bit past their length (RFC 4632, 3.1), ports from 1 to 65535
-- (Kubernetes API, Service v1), and timeouts of 32 bits. A number in a definition has no bound of
-- its own; what a text is read as is within these, by a law.
use Rattle.std.specs.Prelude.{◌≡◌, ℕ, ◌^◌, ◌&&◌, nat_lt, Bool, true, List, Contains, Option, Some, None}
use Rattle.std.specs.List.{list_all}
use Rattle.std.specs.FinMap as finite
use Rattle.kp_base.specs.Net.{AddressParts, RangeParts}
use Rattle.kp_base.specs.Keys.{key_cmp}
use Rattle.kp_base.specs.declared.address.Family.{Family}
use Rattle.kp_base.specs.declared.config.Config.{Config}
use Rattle.kp_base.specs.declared.key.ObjectKey.{ObjectKey}
use Rattle.kp_types.specs.declared.event.Event.{Event}
use Rattle.kp_types.specs.declared.event.Event.TheVariants.{Apply, Delete}
use Rattle.kp_types.specs.declared.event.Object.{Object}
use Rattle.kp_types.specs.declared.event.Object.TheVariants as object
use Rattle.kp_types.specs.declared.pod.ContainerPort.{ContainerPort}
use Rattle.kp_types.specs.declared.pod.Pod.{Pod}
use Rattle.kp_types.specs.declared.service.ClusterAddress.{ClusterAddress}
use Rattle.kp_types.specs.declared.service.ClusterAddress.TheVariants.{Absent, Headless, At}
use Rattle.kp_types.specs.declared.service.Service.{Service}
use Rattle.kp_types.specs.declared.service.Six.{Six}
use Rattle.kp_types.specs.declared.service.ServicePort.{ServicePort}
use Rattle.kp_types.specs.declared.service.TargetPort.{TargetPort}
use Rattle.kp_types.specs.declared.service.TargetPort.TheVariants.{Number, Named}
use Rattle.kp_types.specs.declared.slice.Slice.{Slice}
use Rattle.kp_types.specs.declared.slice.SliceEndpoint.{SliceEndpoint}
use Rattle.kp_types.specs.declared.slice.SlicePort.{SlicePort}
use Rattle.kp_object_defs.specs.Objects.{Objects}
use Rattle.kp_object_defs.specs.PortInfo.{PortInfo}
use Rattle.kp_restore_defs.specs.RuleText.{is_canonical_address, is_canonical_range, is_canonical_endpoint, is_port_number}

-- ---- Numbers

-- a value passes a test, if there is one
abbrev pub passes_if_some : {A : Type 0} → (A → Bool) → Option A → Bool
passes_if_some test None = true
passes_if_some test (Some x) = test x

-- an address whose number its family has
abbrev pub is_bounded_address : AddressParts → Bool
is_bounded_address a = is_canonical_address a.family a

-- a range that its family has
abbrev pub is_bounded_range : RangeParts → Bool
is_bounded_range r = is_canonical_range r.base.family r

-- seconds of 32 bits
abbrev pub is_timeout : ℕ → Bool
is_timeout seconds = nat_lt seconds (2 ^ 32)

-- ---- Objects

-- a cluster address, if it is one
abbrev pub is_bounded_cluster_address : ClusterAddress → Bool
is_bounded_cluster_address Absent = true
is_bounded_cluster_address Headless = true
is_bounded_cluster_address (At a) = is_bounded_address a

-- a target port, if it is a number
abbrev pub is_bounded_target : TargetPort → Bool
is_bounded_target (Number n) = is_port_number n
is_bounded_target (Named name) = true

-- the numbers of a Service's port
abbrev pub is_bounded_port : ServicePort → Bool
is_bounded_port p =
    is_port_number p.port && (is_bounded_target p.target
    && passes_if_some is_port_number p.node_port)

-- those of what a Service has of the family IPv6
pub record IsBoundedSix (six : Six) : Type 0 where
  pub cluster : passes_if_some is_bounded_address six.cluster ≡ true
  pub external : list_all is_bounded_address six.external ≡ true
  pub balancer : list_all is_bounded_address six.balancer ≡ true
  pub ranges : list_all is_bounded_range six.ranges ≡ true

-- those of a Service
pub record IsBoundedService (s : Service) : Type 0 where
  pub cluster : is_bounded_cluster_address s.cluster ≡ true
  pub ports : list_all is_bounded_port s.ports ≡ true
  pub external : list_all is_bounded_address s.external ≡ true
  pub affinity : passes_if_some is_timeout s.affinity ≡ true
  pub ranges : passes_if_some (list_all is_bounded_range) s.ranges ≡ true
  pub health : passes_if_some is_port_number s.health ≡ true
  pub balancer : list_all is_bounded_address s.balancer ≡ true
  pub six : IsBoundedSix s.six

-- the number of a slice's port, if it has one
abbrev pub is_bounded_slice_port : SlicePort → Bool
is_bounded_slice_port p = passes_if_some is_port_number p.port

-- the address of an entry, if it has one
abbrev pub is_bounded_entry : SliceEndpoint → Bool
is_bounded_entry e = passes_if_some is_bounded_address e.address

-- the numbers of an EndpointSlice
pub record IsBoundedSlice (s : Slice) : Type 0 where
  pub ports : list_all is_bounded_slice_port s.ports ≡ true
  pub endpoints : list_all is_bounded_entry s.endpoints ≡ true

-- the number of a container's port
abbrev pub is_bounded_container_port : ContainerPort → Bool
is_bounded_container_port p = is_port_number p.port

-- the numbers of a Pod
pub record IsBoundedPod (p : Pod) : Type 0 where
  pub ports : list_all is_bounded_container_port p.ports ≡ true
  pub address : passes_if_some is_bounded_address p.address ≡ true
  pub address6 : passes_if_some is_bounded_address p.address6 ≡ true

-- those of an object; a Node has none
abbrev pub IsBoundedObject : Object → Type 0
IsBoundedObject (object.Service s) = IsBoundedService s
IsBoundedObject (object.EndpointSlice s) = IsBoundedSlice s
IsBoundedObject (object.Pod p) = IsBoundedPod p
IsBoundedObject (object.Node n) = Unit {0}

-- those of an event
abbrev pub IsBoundedEvent : Event → Type 0
IsBoundedEvent (Apply o) = IsBoundedObject o
IsBoundedEvent (Delete kind key) = Unit {0}

-- events whose numbers are within their bounds
abbrev pub AreBoundedEvents : List Event → Type 0
AreBoundedEvents events = (e : Event) → Contains events e → IsBoundedEvent e

-- what holds of each object of a map
abbrev pub HoldsOfEach : {X : Type 0} → (X → Type 0) → finite.FinMap key_cmp X → Type 0
HoldsOfEach {X} P m = (key : ObjectKey) (x : X) → finite.get m key ≡ Some x → P x

-- objects whose numbers are within their bounds
pub record AreBounded (o : Objects) : Type 0 where
  pub services : HoldsOfEach IsBoundedService o.services
  pub slices : HoldsOfEach IsBoundedSlice o.slices
  pub pods : HoldsOfEach IsBoundedPod o.pods

-- a configuration whose cluster ranges, if it has any, are ranges
pub record IsBoundedConfig (config : Config) : Type 0 where
  pub cluster : passes_if_some is_bounded_range config.cluster ≡ true
  pub cluster6 : passes_if_some is_bounded_range config.cluster6 ≡ true

-- ---- Ports

-- what is known of a port, in a family
pub record IsBoundedInfo (family : Family) (i : PortInfo) : Type 0 where
  pub number : is_port_number i.number ≡ true
  pub address : is_canonical_address family i.address ≡ true
  pub external : list_all (is_canonical_address family) i.external ≡ true
  pub balancer : list_all (is_canonical_address family) i.balancer ≡ true
  pub node_port : passes_if_some is_port_number i.node_port ≡ true
  pub ranges : passes_if_some (list_all (is_canonical_range family)) i.ranges ≡ true
  pub affinity : passes_if_some is_timeout i.affinity ≡ true
  pub cluster : list_all (is_canonical_endpoint family) i.lists.cluster ≡ true
  pub local : list_all (is_canonical_endpoint family) i.lists.local ≡ true
