-- Worked examples of masquerading (Kubernetes documents on virtual IPs and "Using Source IP"; kube-proxy's
-- options --cluster-cidr and --masquerade-all).
use Rattle.std.specs.Prelude.{◌≡◌, true, false, List, [], ◌∷◌, codes, None}
use Rattle.kp_base.specs.declared.config.Config.{Config}
use Rattle.kp_types.specs.declared.packet.Packet.{Packet}
use Rattle.kp_types.specs.declared.service.Service.{Service}
use Rattle.kp_types.specs.declared.slice.SliceEndpoint.{SliceEndpoint}
use Rattle.kp_types.specs.declared.verdict.Verdict.{Verdict}
use Rattle.kp_types.specs.declared.verdict.Verdict.TheVariants.{To}
use Rattle.kp_choice_defs.specs.Draws.{draw_of_list}
use Rattle.kp_door_defs.specs.Decision.{decision_from}
use Rattle.kp_worked.specs.Setting.{ipv4, config, setting_under, web, ready_at, infos, at_8080, ep1, no_lists, from_network, other_pod, client, to_web}
use Rattle.kp_worked.specs.Decisions.{two, at_node_port, local_node_port}

-- the verdict under a configuration, where the first endpoint is drawn
abbrev pub verdict_under : Config → Service → List SliceEndpoint → Packet → Verdict
verdict_under c s endpoints packet =
    (decision_from (setting_under c) (infos s endpoints) packet (draw_of_list (0 ∷ [])) no_lists).verdict

-- a pod's packet to a cluster address keeps its source
abbrev pub Inside : Type 0
Inside = verdict_under config web two (to_web other_pod) ≡ To ep1 false

-- what an endpoint sends to itself doesn't
abbrev pub ToItself : Type 0
ToItself = verdict_under config web two (to_web (ipv4 10 244 1 2)) ≡ To ep1 true

-- nor does what comes from outside the cluster's range
abbrev pub FromOutside : Type 0
FromOutside = verdict_under config web two (to_web client) ≡ To ep1 true

-- nor anything where all is masqueraded
abbrev pub All : Type 0
All = verdict_under (record config { masquerade_all = true }) web two (to_web other_pod) ≡ To ep1 true

-- where no range is known, what comes from outside keeps it
abbrev pub NoRange : Type 0
NoRange = verdict_under (record config { cluster = None }) web two (to_web client) ≡ To ep1 false

-- but what an endpoint sends to itself still doesn't
abbrev pub ToItselfNoRange : Type 0
ToItselfNoRange = verdict_under (record config { cluster = None }) web two (to_web (ipv4 10 244 1 2)) ≡ To ep1 true

-- at a node port a client's source is lost under the external policy Cluster
abbrev pub ThroughNodePort : Type 0
ThroughNodePort =
    verdict_under config at_node_port two (from_network client (ipv4 10 0 0 1) 30080) ≡ To ep1 true

-- and kept under Local
abbrev pub LocalKeepsSource : Type 0
LocalKeepsSource =
    verdict_under config local_node_port two (from_network client (ipv4 10 0 0 1) 30080) ≡ To ep1 false

-- what goes to an endpoint on the node itself never leaves it, and keeps its source
abbrev pub ToNode : Type 0
ToNode =
    verdict_under config at_node_port (ready_at (ipv4 10 0 0 1) (codes "n1") ∷ [])
    (from_network client (ipv4 10 0 0 1) 30080)
    ≡ To (at_8080 (ipv4 10 0 0 1)) false
