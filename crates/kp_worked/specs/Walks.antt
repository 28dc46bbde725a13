-- Worked examples of walks through full tables, for all kinds of destinations: the packets whose decisions are
-- worked out go to the same places.
use Rattle.std.specs.Prelude.{◌≡◌, ℕ, true, false, List, [], ◌∷◌, codes}
use Rattle.std.specs.FinMap as finite
use Rattle.kp_types.specs.Places.{chain_cmp}
use Rattle.kp_types.specs.Setting.{Setting}
use Rattle.kp_types.specs.declared.packet.Packet.{Packet}
use Rattle.kp_types.specs.declared.service.Service.{Service}
use Rattle.kp_types.specs.declared.slice.SliceEndpoint.{SliceEndpoint}
use Rattle.kp_types.specs.declared.verdict.Verdict.{Verdict}
use Rattle.kp_types.specs.declared.verdict.Verdict.TheVariants.{To, Rejected, Dropped, LeftAlone}
use Rattle.kp_choice_defs.specs.Draws.{draw_of_list}
use Rattle.kp_object_defs.specs.PortInfo.{PortInfo}
use Rattle.kp_table_defs.specs.Layout.{rows_of}
use Rattle.kp_table_defs.specs.Walk.{Walked, walk_of}
use Rattle.kp_worked.specs.Setting.{ipv4, setting, plain_setting, web, ready_at, first, second, infos, at_8080, ep1, ep2, no_lists, from_network, from_node, other_pod, client, to_web}
use Rattle.kp_worked.specs.Decisions.{two, local_inside, local_node_port, at_node_port, with_external, two_with_external, balanced}

-- the walk of a packet through the full table of ports
abbrev pub walked : Setting → List PortInfo → Packet → List ℕ → Walked
walked s ports packet draws =
    walk_of (λ q. finite.find chain_cmp q (rows_of s ports)) s.config.addresses packet (draw_of_list draws) no_lists

-- its verdict, where the Service has these endpoints
abbrev pub walk_on : Service → List SliceEndpoint → Packet → List ℕ → Verdict
walk_on s endpoints packet draws = (walked setting (infos s endpoints) packet draws).verdict

-- ---- The chains on the way

-- a packet goes from the hook through KUBE-SERVICES and the Service's chain to the endpoint's
abbrev pub Way : Type 0
Way =
    (walked plain_setting (infos web (first ∷ [])) (to_web other_pod) []).trail
    ≡ (codes "PREROUTING" ∷ codes "KUBE-SERVICES" ∷ codes "KUBE-SVC-" ∷ codes "KUBE-SEP-" ∷ []) ∷ []

-- one that is masqueraded is accepted in KUBE-FORWARD, and masqueraded behind the routing
abbrev pub WayOfMasqueraded : Type 0
WayOfMasqueraded =
    (walked plain_setting (infos web (first ∷ [])) (to_web client) []).trail
    ≡ (codes "PREROUTING" ∷ codes "KUBE-SERVICES" ∷ codes "KUBE-SVC-" ∷ codes "KUBE-SEP-" ∷ [])
    ∷ (codes "FORWARD" ∷ codes "KUBE-FORWARD" ∷ [])
    ∷ (codes "POSTROUTING" ∷ codes "KUBE-POSTROUTING" ∷ [])
    ∷ []

-- ---- Verdicts

-- a packet to a Service without local endpoints, under the internal policy Local
abbrev pub NoLocalEndpoint : Type 0
NoLocalEndpoint = walk_on local_inside (second ∷ []) (to_web other_pod) [] ≡ Dropped

-- a client's packet to a node port under the external policy Local, without local endpoints
abbrev pub ClientToNodePort : Type 0
ClientToNodePort = walk_on local_node_port (second ∷ []) (from_network client (ipv4 10 0 0 1) 30080) [] ≡ Dropped

-- a pod's
abbrev pub PodToNodePort : Type 0
PodToNodePort = walk_on local_node_port (second ∷ []) (from_network other_pod (ipv4 10 0 0 1) 30080) [] ≡ To ep2 false

-- the node's
abbrev pub NodeToNodePort : Type 0
NodeToNodePort =
    walk_on local_node_port (second ∷ []) (from_node (ipv4 10 0 0 1) (ipv4 10 0 0 1) 30080) [] ≡ To ep2 true

-- one to a loopback address
abbrev pub LoopbackNodePort : Type 0
LoopbackNodePort =
    walk_on local_node_port (second ∷ []) (from_node (ipv4 127 0 0 1) (ipv4 127 0 0 1) 30080) [] ≡ LeftAlone

-- one to an endpoint on the node itself
abbrev pub ToNode : Type 0
ToNode =
    walk_on at_node_port (ready_at (ipv4 10 0 0 1) (codes "n1") ∷ []) (from_network client (ipv4 10 0 0 1) 30080) []
    ≡ To (at_8080 (ipv4 10 0 0 1)) false

-- the node's packet to an external address without endpoints
abbrev pub NodeToExternal : Type 0
NodeToExternal = walk_on with_external [] (from_node (ipv4 10 0 0 1) (ipv4 203 0 113 5) 80) [] ≡ LeftAlone

-- a client's
abbrev pub ClientToExternal : Type 0
ClientToExternal = walk_on with_external [] (from_network client (ipv4 203 0 113 5) 80) [] ≡ Rejected

-- one to the external address of two Services, the first of which has no local endpoint
abbrev pub NextService : Type 0
NextService =
    (walked setting two_with_external (from_network client (ipv4 203 0 113 5) 80) []).verdict
    ≡ To (at_8080 (ipv4 10 244 1 9)) true

-- a packet to a load balancer from the last address of its source range
abbrev pub LastOfRange : Type 0
LastOfRange = walk_on balanced two (from_network (ipv4 192 0 2 255) (ipv4 203 0 113 9) 80) (0 ∷ []) ≡ To ep1 true

-- one from the address behind it
abbrev pub BehindRange : Type 0
BehindRange = walk_on balanced two (from_network (ipv4 192 0 3 0) (ipv4 203 0 113 9) 80) (0 ∷ []) ≡ Dropped

-- one to a load balancer without endpoints
abbrev pub AdmittedToNone : Type 0
AdmittedToNone = walk_on balanced [] (from_network client (ipv4 203 0 113 9) 80) [] ≡ Rejected
