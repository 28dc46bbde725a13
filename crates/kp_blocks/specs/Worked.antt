-- Chains joined from the blocks of ports, worked out.
use Rattle.std.specs.Prelude.{◌≡◌, ◌*◌, ◌^◌, ℕ, true, List, [], ◌∷◌, codes}
use Rattle.std.specs.FinMap as finite
use Rattle.kp_base.specs.Net.{RangeParts}
use Rattle.kp_base.specs.declared.address.Family.TheVariants.{V4, V6}
use Rattle.kp_base.specs.declared.key.PortKey.{PortKey}
use Rattle.kp_base.specs.declared.port.Proto.{Proto}
use Rattle.kp_base.specs.declared.port.Proto.TheVariants.{Tcp, Udp}
use Rattle.kp_types.specs.Rules.{rule_of}
use Rattle.kp_types.specs.declared.chain.ChainAt.{ChainAt}
use Rattle.kp_types.specs.declared.chain.TableName.{TableName}
use Rattle.kp_types.specs.declared.chain.TableName.TheVariants.{Nat, Filter, Nat6}
use Rattle.kp_types.specs.declared.rule.ChainText.{ChainText}
use Rattle.kp_types.specs.declared.rule.Match.TheVariants as match
use Rattle.kp_types.specs.declared.rule.Rule.{Rule}
use Rattle.kp_types.specs.declared.rule.Target.TheVariants as target
use Rattle.kp_blocks.specs.Joined.{Block, BlocksByPort, joined_rules}

-- a port of a Service
abbrev pub port : List ℕ → Proto → PortKey
port name proto = record {
  object = record { namespace = codes "default"; name = name };
  port_name = [];
  proto = proto;
}

-- a rule for the packets to a port number
abbrev pub rule_to : Proto → ℕ → List ℕ → Rule
rule_to proto number chain = rule_of (match.Port proto number ∷ []) (target.Jump chain)

-- the place of a chain
abbrev pub place : TableName → List ℕ → ChainAt
place table name = record { table = table; chain = name }

-- a chain with its rules
abbrev pub chain : TableName → List ℕ → List Rule → ChainText
chain table name rules = record { at = place table name; rules = rules }

-- the block of a port with an endpoint
abbrev pub dns_block : Block
dns_block = chain Nat (codes "KUBE-SERVICES") (rule_to Udp 53 (codes "KUBE-SVC-DNS") ∷ []) ∷ []

-- and of one with a node port
abbrev pub web_block : Block
web_block =
    chain Nat (codes "KUBE-SERVICES") (rule_to Tcp 80 (codes "KUBE-SVC-WEB") ∷ [])
    ∷ chain Nat (codes "KUBE-NODEPORTS") (rule_to Tcp 30080 (codes "KUBE-EXT-WEB") ∷ []) ∷ []

-- the two ports, not in order
abbrev pub ports : List (PortKey × Block)
ports = (port (codes "web") Tcp, web_block) ∷ (port (codes "dns") Udp, dns_block) ∷ []

-- their blocks
abbrev pub blocks : BlocksByPort
blocks = finite.from_entries ports

-- 127.0.0.0/8
abbrev pub loopback : RangeParts
loopback = record { base = record { family = V4; number = 127 * 2 ^ 24 }; bits = 8 }

-- the packets to the node's own addresses but those of a range go to the node ports
abbrev pub node_ports_jump : RangeParts → Rule
node_ports_jump range =
    rule_of (match.Dst range true ∷ match.DstLocal ∷ []) (target.Jump (codes "KUBE-NODEPORTS"))

-- KUBE-SERVICES of nat: the rules in order of the ports, and then the jump
abbrev pub JoinedBeforeJump : Type 0
JoinedBeforeJump =
    joined_rules V4 blocks (place Nat (codes "KUBE-SERVICES"))
    ≡ rule_to Udp 53 (codes "KUBE-SVC-DNS")
    ∷ rule_to Tcp 80 (codes "KUBE-SVC-WEB")
    ∷ node_ports_jump loopback
    ∷ []

-- KUBE-NODEPORTS: one port's rule
abbrev pub JoinedOfOne : Type 0
JoinedOfOne =
    joined_rules V4 blocks (place Nat (codes "KUBE-NODEPORTS"))
    ≡ rule_to Tcp 30080 (codes "KUBE-EXT-WEB") ∷ []

-- KUBE-SERVICES of filter: no port has rules there
abbrev pub JoinedOfNone : Type 0
JoinedOfNone = joined_rules V4 blocks (place Filter (codes "KUBE-SERVICES")) ≡ []

-- a port of IPv6
abbrev pub six_ports : List (PortKey × Block)
six_ports = (
  port (codes "dns") Udp,
  chain Nat6 (codes "KUBE-SERVICES")
      (rule_to Udp 53 (codes "KUBE-SVC-DNS") ∷ []) ∷ [],
) ∷ []

-- ::1/128
abbrev pub loopback_six : RangeParts
loopback_six = record { base = record { family = V6; number = 1 }; bits = 128 }

-- KUBE-SERVICES of IPv6's nat: the port's rule, and then the jump
abbrev pub JoinedInSix : Type 0
JoinedInSix =
    joined_rules V6 (finite.from_entries six_ports) (place Nat6 (codes "KUBE-SERVICES"))
    ≡ rule_to Udp 53 (codes "KUBE-SVC-DNS")
    ∷ node_ports_jump loopback_six
    ∷ []
