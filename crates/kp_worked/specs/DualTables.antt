-- Worked examples of a node with tables of both families (Kubernetes documents, "IPv4/IPv6
-- dual-stack"). The Service default/web has the cluster addresses 10.96.0.10 and fd00:10:96::a, and the
-- endpoints 10.244.1.2 and fd00:10:244::2, port 8080; the node n1 has the addresses 10.0.0.1 and
-- fd00::1, and its cluster the ranges 10.244.0.0/16 and fd00:10:244::/56.
use Rattle.std.specs.Prelude.{◌≡◌, ℕ, ◌+◌, ◌*◌, ◌^◌, true, false, List, [], ◌∷◌, codes, map, Option, Some, None}
use Rattle.std.specs.FinMap as finite
use Rattle.kp_base.specs.Net.{AddressParts, v6_address}
use Rattle.kp_base.specs.declared.address.Family.{Family}
use Rattle.kp_base.specs.declared.config.Config.{Config}
use Rattle.kp_base.specs.declared.key.Endpoint.{Endpoint}
use Rattle.kp_base.specs.declared.port.Proto.TheVariants.{Tcp}
use Rattle.kp_types.specs.Places.{chain_cmp}
use Rattle.kp_types.specs.Rules.{rule_of}
use Rattle.kp_types.specs.Setting.{Settings}
use Rattle.kp_types.specs.declared.chain.ChainKey.{ChainKey}
use Rattle.kp_types.specs.declared.chain.ChainKey.TheVariants.{Port, Sep}
use Rattle.kp_types.specs.declared.chain.TableName.{TableName}
use Rattle.kp_types.specs.declared.chain.TableName.TheVariants.{Nat6}
use Rattle.kp_types.specs.declared.chain.Clash.{Clash}
use Rattle.kp_types.specs.declared.packet.Packet.{Packet}
use Rattle.kp_types.specs.declared.rule.Match.TheVariants as match
use Rattle.kp_types.specs.declared.rule.Rule.{Rule}
use Rattle.kp_types.specs.declared.rule.Target.TheVariants as target
use Rattle.kp_types.specs.declared.service.ServiceKind.TheVariants.{NodePort}
use Rattle.kp_types.specs.declared.service.Service.{Service}
use Rattle.kp_types.specs.declared.slice.Slice.{Slice}
use Rattle.kp_types.specs.declared.slice.AddressType.TheVariants.{Ipv6}
use Rattle.kp_types.specs.declared.verdict.Verdict.{Verdict}
use Rattle.kp_types.specs.declared.verdict.Verdict.TheVariants.{To, LeftAlone}
use Rattle.kp_choice_defs.specs.Draws.{draw_of_list}
use Rattle.kp_choice_defs.specs.Names.{port_chain_prefix}
use Rattle.kp_object_defs.specs.PortInfo.{PortInfo, infos_from}
use Rattle.kp_door_defs.specs.Decision.{decision_among}
use Rattle.kp_table_defs.specs.Layout.{mark_masq}
use Rattle.kp_table_defs.specs.Rebuild.{clashes_among, rows_of_families}
use Rattle.kp_table_defs.specs.Walk.{Walked, walk_of}
use Rattle.kp_worked.specs.DualStack.{both, pod_six, service_six}
use Rattle.kp_worked.specs.Setting.{config, default_key, ep1, first, second, from_network, from_node, ipv4, no_lists, other_pod, ready_at, service_at, settings_under, slice_of, to_web}

-- the node's configuration, with tables of both families
abbrev pub dual : Config
dual = record config {
  addresses = ipv4 10 0 0 1 ∷ v6_address (253 * 2 ^ 120 + 1) ∷ [];
  cluster6 = Some (record { base = pod_six 0; bits = 56 });
  dual = true;
}

-- the same without tables of IPv6
abbrev pub single : Config
single = record dual { dual = false }

-- the Service, which may be reached at a node port
abbrev pub reachable : Service
reachable = record (service_at (codes "web") (ipv4 10 96 0 10) (Some 30080)) {
  kind = NodePort;
  six = both.six;
}

-- its IPv6 slice
abbrev pub six_slice : Slice
six_slice = record (slice_of (codes "web") (ready_at (pod_six 2) (codes "n1") ∷ [])) {
  key = default_key (codes "web-y");
  family = Ipv6;
}

-- the endpoint of IPv6
abbrev pub ep6 : Endpoint
ep6 = record { address = pod_six 2; port = 8080 }

-- what each family knows of the Service's port
abbrev pub infos_of : Service → Family → List PortInfo
infos_of s family =
    infos_from family (codes "n1") None
    (record {
      service = s;
      wanted = [];
      slices = slice_of (codes "web") (first ∷ []) ∷ six_slice ∷ [];
    } ∷ [])

-- the walk of a packet through the full table
abbrev pub walked : Settings → Service → Packet → Walked
walked settings s packet =
    walk_of (λ q. finite.find chain_cmp q (rows_of_families settings (infos_of s)))
    settings.config.addresses packet (draw_of_list []) no_lists

-- its verdict
abbrev pub walk_on : Config → Service → Packet → Verdict
walk_on c s packet = (walked (settings_under c) s packet).verdict

-- the verdict of the decision
abbrev pub decided : Config → Service → Packet → Verdict
decided c s packet =
    (decision_among (settings_under c) (infos_of s) packet (draw_of_list []) no_lists).verdict

-- a pod of the cluster, and a client outside it
abbrev pub pod_source : AddressParts
pod_source = pod_six 9

abbrev pub outside_source : AddressParts
outside_source = v6_address (253 * 2 ^ 120 + 2 ^ 112 + 5)

-- a packet to the cluster address of IPv6
abbrev pub to_six : AddressParts → Packet
to_six source = from_network source (service_six 10) 80

-- ---- Cluster addresses

-- a pod's packet to the IPv6 cluster address goes to the IPv6 endpoint, and keeps its source
abbrev pub FromPod : Type 0
FromPod = walk_on dual both (to_six pod_source) ≡ To ep6 false

-- a client's is masqueraded, since it comes from outside the range of IPv6
abbrev pub FromOutside : Type 0
FromOutside = walk_on dual both (to_six outside_source) ≡ To ep6 true

-- the decisions are the same
abbrev pub DecidedFromPod : Type 0
DecidedFromPod = decided dual both (to_six pod_source) ≡ To ep6 false

abbrev pub DecidedFromOutside : Type 0
DecidedFromOutside = decided dual both (to_six outside_source) ≡ To ep6 true

-- a packet of IPv4 goes to the IPv4 endpoint
abbrev pub InFour : Type 0
InFour = walk_on dual both (to_web other_pod) ≡ To ep1 false

-- without tables of IPv6 its packets are left alone, and no chain is met
abbrev pub WithoutSix : Type 0
WithoutSix =
    walked (settings_under single) both (to_six pod_source)
    ≡ record { verdict = LeftAlone; trail = []; lists = no_lists }

abbrev pub DecidedWithoutSix : Type 0
DecidedWithoutSix = decided single both (to_six pod_source) ≡ LeftAlone

-- ---- Node ports

-- the node's IPv6 address has the node port
abbrev pub AtNode : Type 0
AtNode =
    walk_on dual reachable (from_network outside_source (v6_address (253 * 2 ^ 120 + 1)) 30080)
    ≡ To ep6 true

-- the loopback address of IPv6 doesn't
abbrev pub AtLoopback : Type 0
AtLoopback = walk_on dual reachable (from_node (v6_address 1) (v6_address 1) 30080) ≡ LeftAlone

abbrev pub DecidedAtLoopback : Type 0
DecidedAtLoopback =
    decided dual reachable (from_node (v6_address 1) (v6_address 1) 30080) ≡ LeftAlone

-- ---- Chains

-- the rules that a look-up finds in a table
abbrev pub chain_of : Config → Service → TableName → List ℕ → Option (List Rule)
chain_of c s table chain =
    finite.find chain_cmp (record { table = table; chain = chain })
    (rows_of_families (settings_under c) (infos_of s))

-- the Service's chain stands in the nat tables of both families under one name; a single IPv6 address
-- has the length 128, and the range of IPv6 marks
abbrev pub ChainOfSix : Type 0
ChainOfSix =
    chain_of dual both Nat6 (codes "KUBE-SVC-web")
    ≡ Some (
    rule_of
    (match.Src (record { base = pod_six 0; bits = 56 }) true
    ∷ match.Dst (record { base = service_six 10; bits = 128 }) false
    ∷ match.Port Tcp 80 ∷ []) (target.Jump mark_masq)
    ∷ rule_of [] (target.Jump (codes "KUBE-SEP-web2")) ∷ [])

-- the nat table of IPv6 asks for the node's addresses but loopback, also where there is no Service
abbrev pub NodePortsOfSix : Type 0
NodePortsOfSix =
    finite.find chain_cmp (record { table = Nat6; chain = codes "KUBE-SERVICES" })
    (rows_of_families (settings_under dual) (λ family. []))
    ≡ Some (
    rule_of (match.Dst (record { base = v6_address 1; bits = 128 }) true ∷ match.DstLocal ∷ [])
    (target.Jump (codes "KUBE-NODEPORTS")) ∷ [])

-- without tables of IPv6 there is no such chain
abbrev pub NoChainOfSix : Type 0
NoChainOfSix = chain_of single both Nat6 (codes "KUBE-SVC-web") ≡ None

-- ---- Clashes

-- the chains of both endpoints have one name, which is no clash: they stand in tables of two
-- families
abbrev pub NoClash : Type 0
NoClash = clashes_among (settings_under dual) (infos_of both) ≡ []

-- names of chains are their prefixes alone
abbrev pub prefix_of : ChainKey → List ℕ
prefix_of (Port kind port) = port_chain_prefix kind
prefix_of (Sep port e) = codes "KUBE-SEP-"

-- what each family knows of the port where it has two endpoints in each
abbrev pub two_of : Family → List PortInfo
two_of family =
    infos_from family (codes "n1") None
    (record {
      service = both;
      wanted = [];
      slices = slice_of (codes "web") (first ∷ second ∷ [])
          ∷ record six_slice {
            endpoints = ready_at (pod_six 2) (codes "n1") ∷ ready_at (pod_six 3) (codes "n1") ∷ [];
          }
          ∷ [];
    } ∷ [])

-- the address of an endpoint's chain
abbrev pub end_of : ChainKey → Option AddressParts
end_of (Port kind port) = None
end_of (Sep port e) = Some e.address

-- the addresses of the endpoints whose chains clash
abbrev pub ends_of : Clash → List (Option AddressParts)
ends_of c = end_of c.first ∷ end_of c.second ∷ []

-- where both families have a clash, that of IPv4 comes first
abbrev pub FourFirst : Type 0
FourFirst =
    map ends_of (clashes_among (record (settings_under dual) { name_of = prefix_of }) two_of)
    ≡ (Some (ipv4 10 244 1 2) ∷ Some (ipv4 10 244 2 3) ∷ [])
    ∷ (Some (pod_six 2) ∷ Some (pod_six 3) ∷ []) ∷ []
