-- Worked examples of the endpoints that a Service port may send to (Kubernetes documents on EndpointSlices,
-- topology hints, traffic policies, and Services without a selector).
use Rattle.std.specs.Prelude.{◌≡◌, ℕ, true, false, List, [], ◌∷◌, map, codes, Some, None}
use Rattle.kp_base.specs.declared.port.Proto.TheVariants.{Tcp}
use Rattle.kp_base.specs.declared.key.Endpoint.{Endpoint}
use Rattle.kp_types.specs.declared.lists.Lists.{Lists}
use Rattle.kp_types.specs.declared.service.Service.{Service}
use Rattle.kp_types.specs.declared.service.ServiceKind.TheVariants.{ExternalName}
use Rattle.kp_types.specs.declared.service.ClusterAddress.TheVariants.{Headless}
use Rattle.kp_types.specs.declared.slice.AddressType.TheVariants.{Fqdn}
use Rattle.kp_types.specs.declared.slice.SliceEndpoint.{SliceEndpoint}
use Rattle.kp_types.specs.declared.slice.Slice.{Slice}
use Rattle.kp_object_defs.specs.PortInfo.{PortInfo}
use Rattle.kp_worked.specs.Setting.{ipv4, web, first, second, third, terminating, hinted, slice_of, infos_in, infos, ep1, ep2, ep3}
use Rattle.kp_worked.specs.Decisions.{two, local_inside, local_node_port, balanced}

-- the lists of each port
abbrev pub lists_of_ports : List PortInfo → List Lists
lists_of_ports ports = map (λ i. i.lists) ports

-- one port with these lists, and whether it has any endpoint
abbrev pub one_port : List Endpoint → List Endpoint → List Lists
one_port cluster local = record { cluster = cluster; local = local; has_any = true } ∷ []

-- one port without endpoints
abbrev pub no_endpoints : List Lists
no_endpoints = record { cluster = []; local = []; has_any = false } ∷ []

-- ---- Policies

-- a Service that is reached inside the cluster alone uses the endpoints of all nodes
abbrev pub ClusterPolicy : Type 0
ClusterPolicy = lists_of_ports (infos web two) ≡ one_port (ep1 ∷ ep2 ∷ []) []

-- under the internal policy Local it uses those of this node
abbrev pub LocalPolicy : Type 0
LocalPolicy = lists_of_ports (infos local_inside two) ≡ one_port [] (ep1 ∷ [])

-- under the external policy Local it uses both
abbrev pub LocalOutside : Type 0
LocalOutside = lists_of_ports (infos local_node_port two) ≡ one_port (ep1 ∷ ep2 ∷ []) (ep1 ∷ [])

-- ---- States

-- a Service without endpoints has none
abbrev pub NoEndpoint : Type 0
NoEndpoint = lists_of_ports (infos web []) ≡ no_endpoints

-- where one endpoint is ready, those that terminate aren't used
abbrev pub ReadyAlone : Type 0
ReadyAlone =
    lists_of_ports (infos web (first ∷ terminating second ∷ terminating third ∷ [])) ≡ one_port (ep1 ∷ []) []

-- where none is ready, those are used that still serve and terminate
abbrev pub ServingAndTerminating : Type 0
ServingAndTerminating =
    lists_of_ports
    (infos web (terminating first ∷ record (terminating second) { serving = false } ∷ record third { ready = false } ∷ []))
    ≡ one_port (ep1 ∷ []) []

-- endpoints that don't serve don't count
abbrev pub NotServing : Type 0
NotServing = lists_of_ports (infos web (record first { ready = false; serving = false } ∷ [])) ≡ no_endpoints

-- nor do those that serve without being ready, unless they terminate
abbrev pub NotReady : Type 0
NotReady = lists_of_ports (infos web (record first { ready = false } ∷ [])) ≡ no_endpoints

-- on this node, those that terminate serve where none is ready, though others are ready elsewhere
abbrev pub TerminatingHere : Type 0
TerminatingHere =
    lists_of_ports (infos local_node_port (terminating first ∷ second ∷ [])) ≡ one_port (ep2 ∷ []) (ep1 ∷ [])

-- ---- Hints

-- hints don't count on a node without a zone
abbrev pub NoZone : Type 0
NoZone =
    lists_of_ports (infos web (hinted (codes "a") first ∷ hinted (codes "b") second ∷ []))
    ≡ one_port (ep1 ∷ ep2 ∷ []) []

-- the lists in a zone
abbrev pub lists_in : List ℕ → Service → List SliceEndpoint → List Lists
lists_in zone s endpoints =
    lists_of_ports (infos_in (Some zone) (record { service = s; wanted = []; slices = slice_of s.key.name endpoints ∷ [] } ∷ []))

-- nor where none hints the node's zone
abbrev pub NoneHintsZone : Type 0
NoneHintsZone =
    lists_in (codes "c") web (hinted (codes "a") first ∷ hinted (codes "b") second ∷ []) ≡ one_port (ep1 ∷ ep2 ∷ []) []

-- where each ready endpoint has a hint, those of the node's zone are used
abbrev pub HintedZone : Type 0
HintedZone =
    lists_in (codes "a") web (hinted (codes "a") first ∷ hinted (codes "a") second ∷ hinted (codes "b") third ∷ [])
    ≡ one_port (ep1 ∷ ep2 ∷ []) []

-- and all of them, where one has none
abbrev pub OneUnhinted : Type 0
OneUnhinted =
    lists_in (codes "a") web (hinted (codes "a") first ∷ hinted (codes "a") second ∷ third ∷ [])
    ≡ one_port (ep1 ∷ ep2 ∷ ep3 ∷ []) []

-- one that is ready here with a hint elsewhere, one elsewhere with the node's hint, and one that terminates here
abbrev pub mixed : List SliceEndpoint
mixed =
    hinted (codes "a") first ∷ hinted (codes "b") second ∷ record (terminating third) { node = Some (codes "n1") } ∷ []

-- under the internal policy Local the ready endpoint of this node is used, whatever its hint
abbrev pub LocalWithHints : Type 0
LocalWithHints = lists_in (codes "b") local_inside mixed ≡ one_port [] (ep1 ∷ [])

-- under the external one the list of all nodes goes by hints
abbrev pub BothWithHints : Type 0
BothWithHints = lists_in (codes "b") local_node_port mixed ≡ one_port (ep2 ∷ []) (ep1 ∷ [])

-- hints never count for the endpoints of this node
abbrev pub HintsElsewhere : Type 0
HintsElsewhere =
    lists_in (codes "c") local_node_port (hinted (codes "a") first ∷ hinted (codes "c") second ∷ [])
    ≡ one_port (ep2 ∷ []) (ep1 ∷ [])

-- ---- Slices

-- the lists of the Service with these slices
abbrev pub lists_of_slices : List Slice → List Lists
lists_of_slices slices = lists_of_ports (infos_in None (record { service = web; wanted = []; slices = slices } ∷ []))

-- an endpoint that stands in two slices counts once
abbrev pub InTwoSlices : Type 0
InTwoSlices =
    lists_of_slices (slice_of (codes "web") two ∷ slice_of (codes "web") (first ∷ third ∷ []) ∷ [])
    ≡ one_port (ep1 ∷ ep2 ∷ ep3 ∷ []) []

-- a slice of names has no addresses
abbrev pub OfNames : Type 0
OfNames = lists_of_slices (record (slice_of (codes "web") two) { family = Fqdn } ∷ []) ≡ no_endpoints

-- a slice's port of another name is another port's
abbrev pub OtherPortName : Type 0
OtherPortName =
    lists_of_slices
    (record (slice_of (codes "web") two) { ports = record { name = codes "other"; proto = Tcp; port = Some 8080 } ∷ [] } ∷ [])
    ≡ no_endpoints

-- ---- Services without a port in the tables

-- a headless Service has none
abbrev pub NoneForHeadless : Type 0
NoneForHeadless = infos (record web { cluster = Headless }) two ≡ []

-- nor has one that is only another name
abbrev pub NoneForExternalName : Type 0
NoneForExternalName = infos (record web { kind = ExternalName }) two ≡ []

-- ---- Addresses

-- an external address counts once
abbrev pub ExternalOnce : Type 0
ExternalOnce =
    map (λ i. i.external) (infos (record web { external = ipv4 203 0 113 5 ∷ ipv4 203 0 113 5 ∷ [] }) two)
    ≡ (ipv4 203 0 113 5 ∷ []) ∷ []

-- the addresses of load balancers count for a Service of that type
abbrev pub BalancerOfType : Type 0
BalancerOfType = map (λ i. i.balancer) (infos balanced two) ≡ (ipv4 203 0 113 9 ∷ []) ∷ []

-- and for no other
abbrev pub BalancerOfOtherType : Type 0
BalancerOfOtherType = map (λ i. i.balancer) (infos (record balanced { kind = web.kind }) two) ≡ [] ∷ []
