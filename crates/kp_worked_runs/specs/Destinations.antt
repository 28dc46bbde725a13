-- Worked examples of walks whose packets the rule of a Service's cluster address isn't for: it is
-- passed over, and the rule behind it is tried.
use Rattle.std.specs.Prelude.{◌≡◌, true, [], ◌∷◌}
use Rattle.kp_base.specs.declared.port.Proto.TheVariants.{Udp}
use Rattle.kp_types.specs.declared.packet.Packet.{Packet}
use Rattle.kp_types.specs.declared.verdict.Verdict.{Verdict}
use Rattle.kp_types.specs.declared.verdict.Verdict.TheVariants.{To, LeftAlone}
use Rattle.kp_worked.specs.Setting.{ipv4, plain_setting, infos, first, ep1, from_network, other_pod, to_web}
use Rattle.kp_worked.specs.Decisions.{at_node_port}
use Rattle.kp_worked.specs.Walks.{walked}

-- the verdict on a packet, where a Service with a node port has one endpoint
abbrev pub verdict : Packet → Verdict
verdict packet = (walked plain_setting (infos at_node_port (first ∷ [])) packet []).verdict

-- a packet to another port of the cluster address is for no rule
abbrev pub OtherPort : Type 0
OtherPort = verdict (record (to_web other_pod) { port = 81 }) ≡ LeftAlone

-- nor is one of another protocol
abbrev pub OtherProtocol : Type 0
OtherProtocol = verdict (record (to_web other_pod) { proto = Udp }) ≡ LeftAlone

-- nor is one to another address
abbrev pub OtherAddress : Type 0
OtherAddress = verdict (from_network other_pod (ipv4 10 96 0 11) 80) ≡ LeftAlone

-- one to an address of the node is for the rule behind it, which leads to the node ports
abbrev pub OwnAddress : Type 0
OwnAddress = verdict (from_network other_pod (ipv4 10 0 0 1) 30080) ≡ To ep1 true
