-- What the proxy knows of one Service port, as kube-proxy's service port info: its destinations,
-- its policies and its endpoints (Kubernetes documents on Services). Only Services with a cluster
-- address take part. Addresses and ranges that stand twice in one list count once, at their first
-- place.
use Rattle.std.specs.Prelude.{ℕ, ◌==◌, ◌&&◌, ◌||◌, Bool, true, false, List, [], map, not, cond, Option, None, option_map, option_and_then, is_some}
use Rattle.std.specs.List.{filter, filter_map, flat_map}
use Rattle.std.specs.FinMap as finite
use Rattle.kp_base.specs.Net.{AddressParts, RangeParts, same_address, same_family}
use Rattle.kp_base.specs.Keys.{port_key_cmp}
use Rattle.kp_base.specs.declared.address.Family.{Family}
use Rattle.kp_base.specs.declared.address.Family.TheVariants.{V4, V6}
use Rattle.kp_base.specs.declared.key.PortKey.{PortKey}
use Rattle.kp_base.specs.declared.key.Endpoint.{Endpoint}
use Rattle.kp_types.specs.Setting.{FamilyConfig, Settings, config_of_family}
use Rattle.kp_types.specs.declared.service.Service.{Service}
use Rattle.kp_types.specs.declared.service.ServiceKind.{ServiceKind}
use Rattle.kp_types.specs.declared.service.ServiceKind.TheVariants.{ClusterIp, NodePort, LoadBalancer, ExternalName}
use Rattle.kp_types.specs.declared.service.ServicePort.{ServicePort}
use Rattle.kp_types.specs.declared.service.ClusterAddress.{ClusterAddress}
use Rattle.kp_types.specs.declared.service.ClusterAddress.TheVariants.{Absent, Headless, At}
use Rattle.kp_types.specs.declared.lists.Candidate.{Candidate}
use Rattle.kp_types.specs.declared.lists.Lists.{Lists}
use Rattle.kp_types.specs.declared.info.ServiceSources.{ServiceSources}
pub use Rattle.kp_types.specs.declared.info.PortInfo.{PortInfo}
use Rattle.kp_object_defs.specs.Objects.{Objects, zone_of}
use Rattle.kp_object_defs.specs.Order.{by_key, values_of, first_places}
use Rattle.kp_object_defs.specs.Desired.{is_empty, is_external_name, address_in}
use Rattle.kp_object_defs.specs.Entries.{sources_of, entries_from}
use Rattle.kp_object_defs.specs.Lists.{lists_from, list_by_policy}

-- whether two ranges are one
abbrev pub same_range : RangeParts → RangeParts → Bool
same_range a b = same_address a.base b.base && (a.bits == b.bits)

-- the addresses of a family, once each
abbrev pub addresses_in : Family → List AddressParts → List AddressParts
addresses_in family addresses =
    first_places same_address (filter (λ a. same_family a.family family) addresses)

-- the ranges of a family, once each
abbrev pub ranges_in : Family → List RangeParts → List RangeParts
ranges_in family ranges =
    first_places same_range (filter (λ r. same_family r.base.family family) ranges)

-- the address of a cluster address field in a family
abbrev pub address_at : Family → ClusterAddress → Option AddressParts
address_at family Absent = None
address_at family Headless = None
address_at family (At a) = address_in family a

-- the cluster address that a Service gives for a family
abbrev pub cluster_of_family : Family → Service → Option AddressParts
cluster_of_family V4 s = address_at V4 s.cluster
cluster_of_family V6 s = option_and_then (address_in V6) s.six.cluster

-- the cluster address of a Service in a family; what is only another name has none
abbrev pub cluster_address_in : Family → Service → Option AddressParts
cluster_address_in family s = cond (is_external_name s.kind) None (cluster_of_family family s)

-- the external addresses that a Service gives for a family
abbrev pub external_of : Family → Service → List AddressParts
external_of V4 s = s.external
external_of V6 s = s.six.external

-- the load balancer's addresses that it gives
abbrev pub balancer_of : Family → Service → List AddressParts
balancer_of V4 s = s.balancer
balancer_of V6 s = s.six.balancer

-- the source ranges that it gives, where sources are restricted in either family
abbrev pub ranges_of : Family → Service → Option (List RangeParts)
ranges_of V4 s = s.ranges
ranges_of V6 s = option_map (λ _v4. s.six.ranges) s.ranges

-- load-balancer addresses count for type LoadBalancer
abbrev pub has_balancer : ServiceKind → Bool
has_balancer LoadBalancer = true
has_balancer ClusterIp = false
has_balancer NodePort = false
has_balancer ExternalName = false

-- node ports count for types NodePort and LoadBalancer
abbrev pub has_node_port : ServiceKind → Bool
has_node_port LoadBalancer = true
has_node_port NodePort = true
has_node_port ClusterIp = false
has_node_port ExternalName = false

-- the external addresses of a Service in a family
abbrev pub external_in : Family → Service → List AddressParts
external_in family s = addresses_in family (external_of family s)

-- the load-balancer addresses of a Service in a family
abbrev pub balancer_in : Family → Service → List AddressParts
balancer_in family s = cond (has_balancer s.kind) (addresses_in family (balancer_of family s)) []

-- the node port of a Service's port
abbrev pub node_port_of : Service → ServicePort → Option ℕ
node_port_of s p = cond (has_node_port s.kind) p.node_port None

-- a port with these may be reached from outside the cluster
abbrev pub is_reachable : List AddressParts → List AddressParts → Option ℕ → Bool
is_reachable external balancer node_port =
    not (is_empty external) || (not (is_empty balancer) || is_some node_port)

-- the name of a Service's port
abbrev pub port_key_of : Service → ServicePort → PortKey
port_key_of s p = record { object = s.key; port_name = p.name; proto = p.proto }

-- a port of a Service may be reached from outside the cluster in a family
abbrev pub is_reachable_in : Family → Service → ServicePort → Bool
is_reachable_in family s p =
    is_reachable (external_in family s) (balancer_in family s) (node_port_of s p)

-- the endpoints of a port of a Service that it may send to, in a zone
abbrev pub lists_of : Family → Service → ServicePort → Option (List ℕ) → List Candidate → Lists
lists_of family s p zone entries =
    lists_from s.internal s.outer (is_reachable_in family s p) zone entries

-- The source ranges of a Service in a family. No list restricts nobody (an object whose list is
-- empty has none), while a list that has no range of the family admits nobody.
abbrev pub restriction_in : Family → Option (List RangeParts) → Option (List RangeParts)
restriction_in family ranges = option_map (ranges_in family) ranges

-- what the proxy knows of a port, whose cluster address and endpoints are these
abbrev pub info_from :
    Family → Service → ServicePort → Option (List ℕ) → List Candidate → AddressParts → PortInfo
info_from family s p zone entries address = record {
  key = port_key_of s p;
  number = p.port;
  address = address;
  external = external_in family s;
  balancer = balancer_in family s;
  node_port = node_port_of s p;
  ranges = restriction_in family (ranges_of family s);
  affinity = s.affinity;
  internal = s.internal;
  outer = s.outer;
  lists = lists_of family s p zone entries;
}

-- what the proxy knows of a port of a Service, on a node in a zone, by what its endpoints are taken
-- from
abbrev pub info_of :
    Family → List ℕ → Option (List ℕ) → ServiceSources × ServicePort → Option PortInfo
info_of family node zone (sources, p) =
    option_map
    (info_from family sources.service p zone
    (entries_from family node sources (port_key_of sources.service p)))
    (cluster_address_in family sources.service)

-- a Service with each of its ports
abbrev pub ports_of : ServiceSources → List (ServiceSources × ServicePort)
ports_of sources = map (λ p. (sources, p)) sources.service.ports

-- the name of a port of a Service
abbrev pub name_of_port : ServiceSources × ServicePort → PortKey
name_of_port (sources, p) = port_key_of sources.service p

-- the ports of Services, in order of their names
abbrev pub service_ports : List ServiceSources → List (ServiceSources × ServicePort)
service_ports services = values_of (by_key port_key_cmp name_of_port (flat_map ports_of services))

-- what the proxy knows of the ports of Services, in order, on a node in a zone
abbrev pub infos_from : Family → List ℕ → Option (List ℕ) → List ServiceSources → List PortInfo
infos_from family node zone services =
    filter_map (info_of family node zone) (service_ports services)

-- what the proxy knows of all ports, in their order
abbrev pub port_infos : Family → FamilyConfig → Objects → List PortInfo
port_infos family config o =
    infos_from family config.node (zone_of o config.node)
    (map (sources_of family config o) (finite.values o.services))

-- what the proxy knows of all ports in each family of a node
abbrev pub infos_by_family : Settings → Objects → Family → List PortInfo
infos_by_family settings o family = port_infos family (config_of_family family settings.config) o

-- the port may be reached from outside the cluster
abbrev pub is_accessible : PortInfo → Bool
is_accessible i = is_reachable i.external i.balancer i.node_port

-- the list of a port's internal traffic policy
abbrev pub internal_list : PortInfo → List Endpoint
internal_list i = list_by_policy i.internal i.lists

-- the list of a port's external traffic policy
abbrev pub external_list : PortInfo → List Endpoint
external_list i = list_by_policy i.outer i.lists
