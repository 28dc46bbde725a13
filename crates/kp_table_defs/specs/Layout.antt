-- The layout of the chains: which rules stand in which chain (kube-proxy's iptables mode; Kubernetes
-- documents on virtual IPs). Names of chains come from a function of what a chain is for. The layout of the
-- fixed chains is this project's choice.
use Rattle.std.specs.Prelude.{ℕ, suc, Bool, true, false, List, [], ◌∷◌, ◌++◌, map, not, codes, length, Option, Some, None}
use Rattle.std.specs.List.{flat_map}
use Rattle.kp_base.specs.Net.{AddressParts, RangeParts, single_range, loopback_range}
use Rattle.kp_base.specs.declared.address.Family.{Family}
use Rattle.kp_base.specs.declared.key.Endpoint.{Endpoint}
use Rattle.kp_types.specs.Places.{nat_of, filter_of}
use Rattle.kp_types.specs.Setting.{Setting}
use Rattle.kp_types.specs.Rules.{rule_of}
use Rattle.kp_types.specs.declared.chain.TableName.{TableName}
use Rattle.kp_types.specs.declared.chain.ChainAt.{ChainAt}
use Rattle.kp_types.specs.declared.chain.ChainKey.{ChainKey}
use Rattle.kp_types.specs.declared.chain.ChainKey.TheVariants as key
use Rattle.kp_types.specs.declared.chain.PortChain.{PortChain}
use Rattle.kp_types.specs.declared.chain.PortChain.TheVariants.{Svc, Svl, Ext, Fw}
use Rattle.kp_types.specs.declared.rule.Match.{Match}
use Rattle.kp_types.specs.declared.rule.Match.TheVariants as match
use Rattle.kp_types.specs.declared.rule.Target.{Target}
use Rattle.kp_types.specs.declared.rule.Target.TheVariants as target
use Rattle.kp_types.specs.declared.rule.Rule.{Rule}
use Rattle.kp_types.specs.declared.service.Policy.{Policy}
use Rattle.kp_types.specs.declared.service.Policy.TheVariants.{Cluster, Local}
use Rattle.kp_choice_defs.specs.Draws.{probability_of}
use Rattle.kp_object_defs.specs.Desired.{is_empty}
use Rattle.kp_object_defs.specs.Lists.{is_local_policy}
use Rattle.kp_object_defs.specs.PortInfo.{PortInfo, internal_list, external_list}
use Rattle.kp_table_defs.specs.Keys.{has_firewall, own_keys}

-- ---- Names

-- the chain that marks packets for masquerading
abbrev pub mark_masq : List ℕ
mark_masq = codes "KUBE-MARK-MASQ"

-- the shared chains: in nat and in filter, for packets to Services
abbrev pub kube_services : List ℕ
kube_services = codes "KUBE-SERVICES"

-- for packets to the node's own addresses
abbrev pub kube_node_ports : List ℕ
kube_node_ports = codes "KUBE-NODEPORTS"

-- for packets that leave the node
abbrev pub kube_postrouting : List ℕ
kube_postrouting = codes "KUBE-POSTROUTING"

-- in filter, for packets to Services from outside the cluster
abbrev pub kube_external_services : List ℕ
kube_external_services = codes "KUBE-EXTERNAL-SERVICES"

-- in filter, for packets that are forwarded
abbrev pub kube_forward : List ℕ
kube_forward = codes "KUBE-FORWARD"

-- in filter, for packets to load-balancer addresses with source ranges
abbrev pub kube_proxy_firewall : List ℕ
kube_proxy_firewall = codes "KUBE-PROXY-FIREWALL"

-- the chain of a port, of a kind
abbrev pub port_chain : Setting → PortInfo → PortChain → List ℕ
port_chain setting i kind = setting.name_of (key.Port kind i.key)

-- the chain of an endpoint of a port
abbrev pub endpoint_chain : Setting → PortInfo → Endpoint → List ℕ
endpoint_chain setting i e = setting.name_of (key.Sep i.key e)

-- the kind of chain that chooses among a policy's endpoints
abbrev pub chain_of_policy : Policy → PortChain
chain_of_policy Cluster = Svc
chain_of_policy Local = Svl

-- ---- Rules

-- a jump for all packets
abbrev pub jump_to : List ℕ → Rule
jump_to chain = rule_of [] (target.Jump chain)

-- a rule for the packets to an address of a port
abbrev pub rule_at : PortInfo → Target → AddressParts → Rule
rule_at i t a = rule_of (match.Dst (single_range a) false ∷ match.Port i.key.proto i.number ∷ []) t

-- a rule with a chance of one among so many
abbrev pub chance : ℕ → Target → Rule
chance n t = rule_of (match.Statistic (probability_of n) ∷ []) t

-- the rules of a list, each but the last with a chance of one among those that are left
abbrev pub choice_rules : (Endpoint → List ℕ) → List Endpoint → List Rule
choice_rules name [] = []
choice_rules name (e ∷ []) = jump_to (name e) ∷ []
choice_rules name (e ∷ f ∷ es) =
    chance (suc (suc (length es))) (target.Jump (name e)) ∷ choice_rules name (f ∷ es)

-- under session affinity, a source that was seen lately goes where it went before
abbrev pub affinity_rules : (Endpoint → List ℕ) → Option ℕ → List Endpoint → List Rule
affinity_rules name None es = []
affinity_rules name (Some seconds) es =
    map (λ e. rule_of (match.Seen (name e) seconds ∷ []) (target.Jump (name e))) es

-- the rule that marks packets to the cluster address
abbrev pub mark_rules : Bool → Option RangeParts → PortInfo → List Rule
mark_rules true cluster i = rule_at i (target.Jump mark_masq) i.address ∷ []
mark_rules false None i = []
mark_rules false (Some cluster) i =
    rule_of (match.Src cluster true ∷ match.Dst (single_range i.address) false ∷ match.Port i.key.proto i.number ∷ [])
    (target.Jump mark_masq) ∷ []

-- rules that stand in a chain under a condition
abbrev pub rules_if : Bool → List Rule → List Rule
rules_if true rules = rules
rules_if false rules = []

-- the chain that chooses among the endpoints of a policy; that of the internal policy marks
abbrev pub list_rules : Setting → PortInfo → Bool → List Endpoint → List Rule
list_rules setting i is_internal es =
    rules_if is_internal (mark_rules setting.config.masquerade_all setting.config.cluster i)
    ++ affinity_rules (endpoint_chain setting i) i.affinity es ++ choice_rules (endpoint_chain setting i) es

-- the match that puts the source into an endpoint's recent list, under session affinity
abbrev pub set_seen : List ℕ → Option ℕ → List Match
set_seen name None = []
set_seen name (Some seconds) = match.SetSeen name ∷ []

-- the chain of an endpoint
abbrev pub endpoint_rules : Setting → PortInfo → Endpoint → List Rule
endpoint_rules setting i e =
    rule_of (match.Src (single_range e.address) false ∷ []) (target.Jump mark_masq)
    ∷ rule_of (match.Proto i.key.proto ∷ set_seen (endpoint_chain setting i e) i.affinity) (target.Dnat e) ∷ []

-- packets of the cluster's range go to all endpoints
abbrev pub pod_rules : Option RangeParts → List ℕ → List Rule
pod_rules None svc = []
pod_rules (Some cluster) svc = rule_of (match.Src cluster false ∷ []) (target.Jump svc) ∷ []

-- the chain of what comes in from outside, by the external traffic policy
abbrev pub external_rules : Setting → PortInfo → Policy → List Rule
external_rules setting i Cluster = jump_to mark_masq ∷ jump_to (port_chain setting i Svc) ∷ []
external_rules setting i Local =
    pod_rules setting.config.cluster (port_chain setting i Svc)
    ++ rule_of (match.SrcLocal ∷ []) (target.Jump mark_masq)
    ∷ rule_of (match.SrcLocal ∷ []) (target.Jump (port_chain setting i Svc))
    ∷ rules_if (not (is_empty i.lists.local)) (jump_to (port_chain setting i Svl) ∷ [])

-- the chain of a load balancer's source ranges
abbrev pub firewall_rules : Setting → PortInfo → List RangeParts → List Rule
firewall_rules setting i ranges =
    map (λ r. rule_of (match.Src r false ∷ []) (target.Jump (port_chain setting i Ext))) ranges

-- ---- Blocks of one port in the shared chains

-- a load-balancer address goes through the source ranges, where there are any
abbrev pub balancer_chain : Option (List RangeParts) → PortChain
balancer_chain None = Ext
balancer_chain (Some ranges) = Fw

-- in KUBE-SERVICES of nat
abbrev pub service_block : Setting → PortInfo → List Rule
service_block setting i =
    rules_if (not (is_empty (internal_list i)))
    (rule_at i (target.Jump (port_chain setting i (chain_of_policy i.internal))) i.address ∷ [])
    ++ rules_if i.lists.has_any
    (map (rule_at i (target.Jump (port_chain setting i Ext))) i.external
    ++ map (rule_at i (target.Jump (port_chain setting i (balancer_chain i.ranges)))) i.balancer)

-- a node port's rule
abbrev pub node_port_rules : PortInfo → Target → Option ℕ → List Rule
node_port_rules i t None = []
node_port_rules i t (Some n) = rule_of (match.Port i.key.proto n ∷ []) t ∷ []

-- in KUBE-NODEPORTS of nat
abbrev pub node_port_block : Setting → PortInfo → List Rule
node_port_block setting i =
    rules_if i.lists.has_any (node_port_rules i (target.Jump (port_chain setting i Ext)) i.node_port)

-- in KUBE-PROXY-FIREWALL of filter
abbrev pub firewall_block : PortInfo → List Rule
firewall_block i = rules_if (has_firewall i) (map (rule_at i target.Drop) i.balancer)

-- packets without endpoints are rejected where there are none at all, and else dropped
abbrev pub refusal_target : Bool → Target
refusal_target true = target.Drop
refusal_target false = target.Reject

-- the node's own addresses but loopback
abbrev pub own_addresses : Family → List Match
own_addresses family = match.Dst (loopback_range family) true ∷ match.DstLocal ∷ []

-- the filter's rule of a node port
abbrev pub node_port_refusal : Family → PortInfo → Target → Option ℕ → List Rule
node_port_refusal family i t None = []
node_port_refusal family i t (Some n) = rule_of (own_addresses family ++ match.Port i.key.proto n ∷ []) t ∷ []

-- in KUBE-EXTERNAL-SERVICES of filter
abbrev pub external_block : Family → PortInfo → List Rule
external_block family i =
    rules_if (is_empty (external_list i))
    (map (rule_at i (refusal_target i.lists.has_any)) i.external
    ++ map (rule_at i (refusal_target i.lists.has_any)) i.balancer
    ++ node_port_refusal family i (refusal_target i.lists.has_any) i.node_port)

-- in KUBE-SERVICES of filter
abbrev pub refusal_block : PortInfo → List Rule
refusal_block i =
    rules_if (is_empty (internal_list i)) (rule_at i (refusal_target i.lists.has_any) i.address ∷ [])

-- ---- Chains

-- a chain of a table, and its rules
abbrev pub row : TableName → List ℕ → List Rule → ChainAt × List Rule
row table chain rules = (record { table = table; chain = chain }, rules)

-- the fixed chains of nat, with these rules for node ports and for Services
abbrev pub nat_rows_with : Family → List Rule → List Rule → List (ChainAt × List Rule)
nat_rows_with family node_ports services =
    row (nat_of family) (codes "PREROUTING") (jump_to kube_services ∷ [])
    ∷ row (nat_of family) (codes "INPUT") []
    ∷ row (nat_of family) (codes "OUTPUT") (jump_to kube_services ∷ [])
    ∷ row (nat_of family) (codes "POSTROUTING") (jump_to kube_postrouting ∷ [])
    ∷ row (nat_of family) mark_masq (rule_of [] target.SetMark ∷ [])
    ∷ row (nat_of family) kube_postrouting
    (rule_of (match.Marked true ∷ []) target.Return ∷ rule_of [] target.FlipMark ∷ rule_of [] target.Masquerade ∷ [])
    ∷ row (nat_of family) kube_node_ports node_ports
    ∷ row (nat_of family) kube_services
    (services ++ rule_of (own_addresses family) (target.Jump kube_node_ports) ∷ [])
    ∷ []

-- the shared chains of nat, with the blocks of all ports
abbrev pub nat_rows : Setting → List PortInfo → List (ChainAt × List Rule)
nat_rows setting infos =
    nat_rows_with setting.family (flat_map (node_port_block setting) infos) (flat_map (service_block setting) infos)

-- the fixed chains of filter, with these rules of the firewall, for what comes in from outside and for Services
abbrev pub filter_rows_with : Family → List Rule → List Rule → List Rule → List (ChainAt × List Rule)
filter_rows_with family firewall external services =
    row (filter_of family) (codes "INPUT")
    (jump_to kube_proxy_firewall ∷ jump_to kube_external_services ∷ [])
    ∷ row (filter_of family) (codes "FORWARD")
    (jump_to kube_proxy_firewall ∷ jump_to kube_external_services ∷ jump_to kube_services ∷ jump_to kube_forward ∷ [])
    ∷ row (filter_of family) (codes "OUTPUT")
    (jump_to kube_proxy_firewall ∷ jump_to kube_services ∷ [])
    ∷ row (filter_of family) kube_forward (rule_of (match.Marked false ∷ []) target.Accept ∷ [])
    ∷ row (filter_of family) kube_proxy_firewall firewall
    ∷ row (filter_of family) kube_external_services external
    ∷ row (filter_of family) kube_services services
    ∷ []

-- the shared chains of filter, with the blocks of all ports
abbrev pub filter_rows : Family → List PortInfo → List (ChainAt × List Rule)
filter_rows family infos =
    filter_rows_with family (flat_map firewall_block infos) (flat_map (external_block family) infos)
    (flat_map refusal_block infos)

-- the rules of a port's firewall chain
abbrev pub firewall_chain_rules : Setting → PortInfo → Option (List RangeParts) → List Rule
firewall_chain_rules setting i None = []
firewall_chain_rules setting i (Some ranges) = firewall_rules setting i ranges

-- the rules of a port's chain of a kind
abbrev pub rules_of_kind : Setting → PortInfo → PortChain → List Rule
rules_of_kind setting i Svc =
    list_rules setting i (not (is_local_policy i.internal)) i.lists.cluster
rules_of_kind setting i Svl = list_rules setting i (is_local_policy i.internal) i.lists.local
rules_of_kind setting i Ext = external_rules setting i i.outer
rules_of_kind setting i Fw = firewall_chain_rules setting i i.ranges

-- the rules of one of a port's chains
abbrev pub rules_of_key : Setting → PortInfo → ChainKey → List Rule
rules_of_key setting i (key.Port kind port) = rules_of_kind setting i kind
rules_of_key setting i (key.Sep port e) = endpoint_rules setting i e

-- where the chain of a key stands
abbrev pub place_of_key : Setting → ChainKey → ChainAt
place_of_key setting k = record { table = nat_of setting.family; chain = setting.name_of k }

-- one of a port's chains, and its rules
abbrev pub row_of_key : Setting → PortInfo → ChainKey → ChainAt × List Rule
row_of_key setting i k = (place_of_key setting k, rules_of_key setting i k)

-- the chains of one port
abbrev pub port_rows : Setting → PortInfo → List (ChainAt × List Rule)
port_rows setting i = map (row_of_key setting i) (own_keys i)

-- all chains of a family's tables
abbrev pub rows_of : Setting → List PortInfo → List (ChainAt × List Rule)
rows_of setting infos =
    nat_rows setting infos ++ filter_rows setting.family infos ++ flat_map (port_rows setting) infos
