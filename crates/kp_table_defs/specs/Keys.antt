-- Which chains a Service port needs, by their keys (kube-proxy's iptables mode; Kubernetes
-- documents on virtual IPs). Each condition under which a port has a chain stands here alone: the
-- rows of the table and the clashes of names both go by these keys.
use Rattle.std.specs.Prelude.{◌==◌, ◌&&◌, Bool, List, [], ◌∷◌, ◌++◌, map, not, is_some}
use Rattle.std.specs.List.{filter, list_any}
use Rattle.kp_base.specs.Net.{same_address}
use Rattle.kp_base.specs.declared.key.Endpoint.{Endpoint}
use Rattle.kp_types.specs.declared.chain.ChainKey.{ChainKey}
use Rattle.kp_types.specs.declared.chain.ChainKey.TheVariants as key
use Rattle.kp_types.specs.declared.chain.PortChain.{PortChain}
use Rattle.kp_types.specs.declared.chain.PortChain.TheVariants.{Svc, Svl, Ext, Fw}
use Rattle.kp_object_defs.specs.Desired.{is_empty}
use Rattle.kp_object_defs.specs.PortInfo.{PortInfo, is_accessible}

-- the kinds of a port's chains, in the order of its rows
abbrev pub chain_kinds : List PortChain
chain_kinds = Svc ∷ Svl ∷ Ext ∷ Fw ∷ []

-- the port has source ranges, a load-balancer address and endpoints
abbrev pub has_firewall : PortInfo → Bool
has_firewall i = is_some i.ranges && (not (is_empty i.balancer) && i.lists.has_any)

-- a port needs its chain of this kind
abbrev pub needs : PortChain → PortInfo → Bool
needs Svc i = not (is_empty i.lists.cluster)
needs Svl i = not (is_empty i.lists.local)
needs Ext i = is_accessible i && i.lists.has_any
needs Fw i = has_firewall i

-- the kinds of chains that a port needs, in the order of its rows
abbrev pub needed_kinds : PortInfo → List PortChain
needed_kinds i = filter (λ kind. needs kind i) chain_kinds

-- an endpoint is in a list
abbrev pub has_endpoint : List Endpoint → Endpoint → Bool
has_endpoint es e = list_any (λ f. same_address f.address e.address && (f.port == e.port)) es

-- the endpoints of either list, once each
abbrev pub all_endpoints : PortInfo → List Endpoint
all_endpoints i =
    i.lists.cluster ++ filter (λ e. not (has_endpoint i.lists.cluster e)) i.lists.local

-- the keys of a port's own chains, in the order of its rows: of each kind that it needs, and of its
-- endpoints
abbrev pub own_keys : PortInfo → List ChainKey
own_keys i =
    map (λ kind. key.Port kind i.key) (needed_kinds i) ++ map (key.Sep i.key) (all_endpoints i)
