-- Worked examples of decisions: where the packets of the setting go (Kubernetes documents on Services, virtual
-- IPs and traffic policies).
use Rattle.std.specs.Prelude.{◌≡◌, ℕ, true, false, List, [], ◌∷◌, codes, Some, None}
use Rattle.kp_base.specs.declared.port.Proto.TheVariants.{Udp}
use Rattle.kp_types.specs.declared.packet.Packet.{Packet}
use Rattle.kp_types.specs.declared.service.Service.{Service}
use Rattle.kp_types.specs.declared.service.ServiceKind.TheVariants.{LoadBalancer, NodePort}
use Rattle.kp_types.specs.declared.service.Policy.TheVariants.{Local}
use Rattle.kp_types.specs.declared.slice.SliceEndpoint.{SliceEndpoint}
use Rattle.kp_types.specs.declared.verdict.Verdict.{Verdict}
use Rattle.kp_types.specs.declared.verdict.Verdict.TheVariants.{To, Rejected, Dropped, LeftAlone}
use Rattle.kp_types.specs.declared.decision.Reason.{Reason}
use Rattle.kp_types.specs.declared.decision.Reason.TheVariants as reason
use Rattle.kp_types.specs.declared.decision.DoorKind.TheVariants as door
use Rattle.kp_types.specs.declared.decision.ListKind.TheVariants as list_kind
use Rattle.kp_types.specs.declared.decision.ChosenBy.TheVariants.{Draws}
use Rattle.kp_choice_defs.specs.Draws.{draw_of_list}
use Rattle.kp_object_defs.specs.PortInfo.{PortInfo}
use Rattle.kp_door_defs.specs.Decision.{Decided, decision_from}
use Rattle.kp_worked.specs.Setting.{ipv4, setting, service_at, web, web_port, ready_at, first, second, third, terminating, hinted, with_endpoints, infos_in, infos, at_8080, ep1, ep2, ep3, no_lists, from_network, from_node, other_pod, client, to_web}

-- the decision on a packet with these draws
abbrev pub decided : List PortInfo → Packet → List ℕ → Decided
decided ports packet draws = decision_from setting ports packet (draw_of_list draws) no_lists

-- its verdict, where the Service has these endpoints
abbrev pub verdict_on : Service → List SliceEndpoint → Packet → List ℕ → Verdict
verdict_on s endpoints packet draws = (decided (infos s endpoints) packet draws).verdict

-- and its reason
abbrev pub reason_of : Service → List SliceEndpoint → Packet → List ℕ → Reason
reason_of s endpoints packet draws = (decided (infos s endpoints) packet draws).reason

-- two endpoints
abbrev pub two : List SliceEndpoint
two = first ∷ second ∷ []

-- three endpoints
abbrev pub three : List SliceEndpoint
three = first ∷ second ∷ third ∷ []

-- ---- Cluster addresses

-- the lowest draw chooses the first of two endpoints
abbrev pub FirstOfTwo : Type 0
FirstOfTwo = verdict_on web two (to_web other_pod) (0 ∷ []) ≡ To ep1 false

-- the reason is the door, its list of two, and the draw
abbrev pub FirstOfTwoReason : Type 0
FirstOfTwoReason =
    reason_of web two (to_web other_pod) (0 ∷ []) ≡ reason.Door door.Cluster web_port list_kind.Cluster 2 Draws 1

-- a draw of one third below 2^31 chooses the first of three
abbrev pub FirstOfThree : Type 0
FirstOfThree = verdict_on web three (to_web other_pod) (715827882 ∷ []) ≡ To ep1 false

-- the next draw doesn't, and then one of the lower half chooses the second
abbrev pub SecondOfThree : Type 0
SecondOfThree = verdict_on web three (to_web other_pod) (715827883 ∷ 1073741823 ∷ []) ≡ To ep2 false

-- and one of the upper half the third
abbrev pub ThirdOfThree : Type 0
ThirdOfThree = verdict_on web three (to_web other_pod) (715827883 ∷ 1073741824 ∷ []) ≡ To ep3 false

-- past the end of the draws the last endpoint is chosen
abbrev pub LastWithoutDraws : Type 0
LastWithoutDraws = verdict_on web three (to_web other_pod) [] ≡ To ep3 false

-- without endpoints a packet is rejected
abbrev pub NoEndpoints : Type 0
NoEndpoints = verdict_on web [] (to_web other_pod) [] ≡ Rejected

-- and so is one of this node
abbrev pub NoEndpointsForNode : Type 0
NoEndpointsForNode = verdict_on web [] (from_node (ipv4 10 0 0 1) (ipv4 10 96 0 10) 80) [] ≡ Rejected

-- a packet of another protocol is no Service's
abbrev pub OtherProtocol : Type 0
OtherProtocol = verdict_on web [] (record (to_web other_pod) { proto = Udp }) [] ≡ LeftAlone

-- nor is one where no Service is
abbrev pub NoService : Type 0
NoService = (decided [] (to_web other_pod) []).verdict ≡ LeftAlone

-- ---- Internal traffic policy Local

-- the Service under it
abbrev pub local_inside : Service
local_inside = record web { internal = Local }

-- with an endpoint on another node alone, a packet is dropped
abbrev pub NoLocalEndpoint : Type 0
NoLocalEndpoint = verdict_on local_inside (second ∷ []) (to_web other_pod) [] ≡ Dropped

-- since it has no local endpoint
abbrev pub NoLocalEndpointReason : Type 0
NoLocalEndpointReason =
    reason_of local_inside (second ∷ []) (to_web other_pod) [] ≡ reason.NoLocal door.Cluster web_port

-- without any endpoint it is rejected
abbrev pub NoEndpointAtAll : Type 0
NoEndpointAtAll = verdict_on local_inside [] (to_web other_pod) [] ≡ Rejected

-- since it has none
abbrev pub NoEndpointAtAllReason : Type 0
NoEndpointAtAllReason = reason_of local_inside [] (to_web other_pod) [] ≡ reason.NoEndpoints door.Cluster web_port

-- ---- Endpoints that terminate, and hints

-- where none is ready, those that still serve are used
abbrev pub TerminatingServe : Type 0
TerminatingServe =
    verdict_on web (terminating first ∷ terminating second ∷ []) (to_web other_pod) (0 ∷ []) ≡ To ep1 false

-- once one is ready, they aren't
abbrev pub ReadyOnly : Type 0
ReadyOnly = verdict_on web (terminating first ∷ second ∷ []) (to_web other_pod) (0 ∷ []) ≡ To ep2 false

-- the verdict on a node in the zone a
abbrev pub verdict_in_a : List SliceEndpoint → Packet → List ℕ → Verdict
verdict_in_a endpoints packet draws =
    (decided (infos_in (Some (codes "a")) (with_endpoints web endpoints ∷ [])) packet draws).verdict

-- hints don't count while one endpoint has none
abbrev pub OneWithoutHint : Type 0
OneWithoutHint =
    verdict_in_a (hinted (codes "a") first ∷ hinted (codes "a") second ∷ third ∷ []) (to_web other_pod) []
    ≡ To ep3 false

-- where all have one, packets stay in the zone
abbrev pub AllWithHints : Type 0
AllWithHints =
    verdict_in_a (hinted (codes "a") first ∷ hinted (codes "a") second ∷ hinted (codes "b") third ∷ [])
    (to_web other_pod) []
    ≡ To ep2 false

-- ---- Node ports

-- the Service with a node port, under the external traffic policy Cluster
abbrev pub at_node_port : Service
at_node_port = record (service_at (codes "web") (ipv4 10 96 0 10) (Some 30080)) { kind = NodePort }

-- and under Local
abbrev pub local_node_port : Service
local_node_port = record at_node_port { outer = Local }

-- under Local, with an endpoint on another node alone, a client's packet is dropped
abbrev pub ClientToNodePort : Type 0
ClientToNodePort =
    verdict_on local_node_port (second ∷ []) (from_network client (ipv4 10 0 0 1) 30080) [] ≡ Dropped

-- a pod may use all endpoints
abbrev pub PodToNodePort : Type 0
PodToNodePort =
    verdict_on local_node_port (second ∷ []) (from_network other_pod (ipv4 10 0 0 1) 30080) [] ≡ To ep2 false

-- and so may the node, whose packet is masqueraded
abbrev pub NodeToNodePort : Type 0
NodeToNodePort =
    verdict_on local_node_port (second ∷ []) (from_node (ipv4 10 0 0 1) (ipv4 10 0 0 1) 30080) [] ≡ To ep2 true

-- a node port doesn't answer at loopback addresses
abbrev pub LoopbackNodePort : Type 0
LoopbackNodePort =
    verdict_on local_node_port (second ∷ []) (from_node (ipv4 127 0 0 1) (ipv4 127 0 0 1) 30080) [] ≡ LeftAlone

-- an endpoint on this node that terminates serves a client, where none is ready
abbrev pub TerminatingAtNodePort : Type 0
TerminatingAtNodePort =
    verdict_on (record local_node_port { kind = LoadBalancer }) (terminating first ∷ [])
    (from_network client (ipv4 10 0 0 1) 30080) []
    ≡ To ep1 false

-- ---- External addresses

-- the Service with an external address
abbrev pub with_external : Service
with_external = record web { external = ipv4 203 0 113 5 ∷ [] }

-- without endpoints, a packet of this node is left alone there
abbrev pub NodeToExternal : Type 0
NodeToExternal = verdict_on with_external [] (from_node (ipv4 10 0 0 1) (ipv4 203 0 113 5) 80) [] ≡ LeftAlone

-- and a client's is rejected
abbrev pub ClientToExternal : Type 0
ClientToExternal = verdict_on with_external [] (from_network client (ipv4 203 0 113 5) 80) [] ≡ Rejected

-- the ports of two Services with one external address: the first, under the external policy Local, has an
-- endpoint on another node alone
abbrev pub two_with_external : List PortInfo
two_with_external =
    infos_in None
    (with_endpoints
    (record (service_at (codes "a") (ipv4 10 96 0 21) None) { external = ipv4 203 0 113 5 ∷ []; outer = Local })
    (second ∷ [])
    ∷ with_endpoints (record (service_at (codes "b") (ipv4 10 96 0 22) None) { external = ipv4 203 0 113 5 ∷ [] })
    (ready_at (ipv4 10 244 1 9) (codes "n1") ∷ [])
    ∷ [])

-- the first leaves a client's packet to the second
abbrev pub NextService : Type 0
NextService =
    (decided two_with_external (from_network client (ipv4 203 0 113 5) 80) []).verdict
    ≡ To (at_8080 (ipv4 10 244 1 9)) true

-- ---- Load balancers

-- the Service with a load balancer that admits 192.0.2.0/24
abbrev pub balanced : Service
balanced = record web {
  kind = LoadBalancer;
  ranges = Some (record { base = ipv4 192 0 2 0; bits = 24 } ∷ []);
  balancer = ipv4 203 0 113 9 ∷ [];
}

-- the last address of the range is admitted
abbrev pub LastOfRange : Type 0
LastOfRange =
    verdict_on balanced two (from_network (ipv4 192 0 2 255) (ipv4 203 0 113 9) 80) (0 ∷ []) ≡ To ep1 true

-- the one behind it isn't
abbrev pub BehindRange : Type 0
BehindRange = verdict_on balanced two (from_network (ipv4 192 0 3 0) (ipv4 203 0 113 9) 80) (0 ∷ []) ≡ Dropped

-- since the load balancer is closed to it
abbrev pub BehindRangeReason : Type 0
BehindRangeReason =
    reason_of balanced two (from_network (ipv4 192 0 3 0) (ipv4 203 0 113 9) 80) (0 ∷ [])
    ≡ reason.Closed door.Balancer web_port

-- without endpoints one that is admitted is rejected
abbrev pub AdmittedToNone : Type 0
AdmittedToNone = verdict_on balanced [] (from_network client (ipv4 203 0 113 9) 80) [] ≡ Rejected

-- since the load balancer has none
abbrev pub AdmittedToNoneReason : Type 0
AdmittedToNoneReason =
    reason_of balanced [] (from_network client (ipv4 203 0 113 9) 80) [] ≡ reason.NoEndpoints door.Balancer web_port
