-- The cluster of the worked examples. The node n1 has the address 10.0.0.1, the pods have addresses in
-- 10.244.0.0/16, and the Service default/web has the cluster address 10.96.0.10 and the port 80 of TCP. Its
-- endpoints stand in one EndpointSlice: 10.244.1.2 on n1, 10.244.2.3 on n2 and 10.244.3.4 on n3, port 8080.
use Rattle.std.specs.Prelude.{ℕ, ◌+◌, ◌*◌, ◌%◌, true, false, refl, List, [], ◌∷◌, ◌++◌, codes, Option, Some, None}
use Rattle.std.specs.FinMap as map
use Rattle.std.proofs.Common.{lit≤}
use Rattle.kp_base.specs.Net.{AddressParts, v4_address}
use Rattle.kp_base.specs.declared.address.Family.TheVariants.{V4}
use Rattle.kp_base.specs.declared.port.Proto.TheVariants.{Tcp}
use Rattle.kp_base.specs.declared.key.ObjectKey.{ObjectKey}
use Rattle.kp_base.specs.declared.key.PortKey.{PortKey}
use Rattle.kp_base.specs.declared.key.Endpoint.{Endpoint}
use Rattle.kp_base.specs.declared.config.Config.{Config}
use Rattle.kp_types.specs.declared.chain.ChainKey.{ChainKey}
use Rattle.kp_types.specs.declared.chain.ChainKey.TheVariants.{Port, Sep}
use Rattle.kp_types.specs.declared.packet.Packet.{Packet}
use Rattle.kp_types.specs.declared.packet.Origin.{Origin}
use Rattle.kp_types.specs.declared.packet.Origin.TheVariants.{Wire, Node}
use Rattle.kp_types.specs.declared.service.Service.{Service}
use Rattle.kp_types.specs.declared.service.ServiceKind.TheVariants.{ClusterIp}
use Rattle.kp_types.specs.declared.service.ServicePort.{ServicePort}
use Rattle.kp_types.specs.declared.service.Six.{Six}
use Rattle.kp_types.specs.declared.service.TargetPort.TheVariants.{Number}
use Rattle.kp_types.specs.declared.service.ClusterAddress.TheVariants.{At}
use Rattle.kp_types.specs.declared.service.Policy.TheVariants.{Cluster}
use Rattle.kp_types.specs.declared.slice.AddressType.TheVariants.{Ipv4}
use Rattle.kp_types.specs.declared.slice.SliceEndpoint.{SliceEndpoint}
use Rattle.kp_types.specs.declared.slice.Slice.{Slice}
use Rattle.kp_types.specs.declared.info.ServiceSources.{ServiceSources}
use Rattle.kp_types.specs.Setting.{Setting, Settings}
use Rattle.kp_choice_defs.specs.Names.{port_chain_prefix}
use Rattle.kp_choice_defs.specs.Recent.{RecentParts}
use Rattle.kp_choice_defs.specs.Settings.{setting_of, settings_of}
use Rattle.kp_object_defs.specs.PortInfo.{PortInfo, infos_from}

-- the IPv4 address of four numbers
abbrev pub ipv4 : ℕ → ℕ → ℕ → ℕ → AddressParts
ipv4 a b c d = v4_address (((a * 256 + b) * 256 + c) * 256 + d)

-- the node's configuration
abbrev pub config : Config
config = record {
  node = codes "n1";
  addresses = ipv4 10 0 0 1 ∷ [];
  cluster = Some (record { base = ipv4 10 244 0 0; bits = 16 });
  cluster6 = None;
  dual = false;
  masquerade_all = false;
  controller = true;
  max_per_slice = 100;
  max_events = 1000000;
  recent_size = 100;
  name_length = 16;
  slice_from = lit≤ tt;
  slice_to = lit≤ tt;
  events_from = lit≤ tt;
  events_to = lit≤ tt;
  recent_from = lit≤ tt;
  recent_to = lit≤ tt;
  name_to = lit≤ tt;
}

-- the key of an object of the default namespace
abbrev pub default_key : List ℕ → ObjectKey
default_key name = record { namespace = codes "default"; name = name }

-- the Service's port, with a node port or none
abbrev pub port_with : Option ℕ → ServicePort
port_with node_port = record { name = []; proto = Tcp; port = 80; target = Number 8080; node_port = node_port }

-- nothing of IPv6
abbrev pub no_six : Six
no_six = record { cluster = None; external = []; balancer = []; ranges = [] }

-- a Service of type ClusterIP, whose port may have a node port
abbrev pub service_at : List ℕ → AddressParts → Option ℕ → Service
service_at name address node_port = record {
  key = default_key name;
  kind = ClusterIp;
  cluster = At address;
  families = V4 ∷ [];
  ports = port_with node_port ∷ [];
  selector = [];
  external = [];
  affinity = None;
  internal = Cluster;
  outer = Cluster;
  publish_not_ready = false;
  ranges = None;
  same_zone = false;
  health = None;
  balancer = [];
  six = no_six;
  distinct = refl;
}

-- the Service
abbrev pub web : Service
web = service_at (codes "web") (ipv4 10 96 0 10) None

-- the name of the Service's port
abbrev pub web_port : PortKey
web_port = record { object = default_key (codes "web"); port_name = []; proto = Tcp }

-- a ready endpoint on a node
abbrev pub ready_at : AddressParts → List ℕ → SliceEndpoint
ready_at address node = record {
  address = Some address;
  ready = true;
  serving = true;
  terminating = false;
  node = Some node;
  zone = None;
  hints = [];
  pod = None;
}

-- the endpoint on n1
abbrev pub first : SliceEndpoint
first = ready_at (ipv4 10 244 1 2) (codes "n1")

-- the one on n2
abbrev pub second : SliceEndpoint
second = ready_at (ipv4 10 244 2 3) (codes "n2")

-- the one on n3
abbrev pub third : SliceEndpoint
third = ready_at (ipv4 10 244 3 4) (codes "n3")

-- an endpoint that terminates, and still serves
abbrev pub terminating : SliceEndpoint → SliceEndpoint
terminating e = record e { ready = false; terminating = true }

-- an endpoint for the clients of a zone
abbrev pub hinted : List ℕ → SliceEndpoint → SliceEndpoint
hinted zone e = record e { hints = zone ∷ [] }

-- a Service's slice with these endpoints
abbrev pub slice_of : List ℕ → List SliceEndpoint → Slice
slice_of service endpoints = record {
  key = default_key (codes "slice");
  service = Some service;
  managed = false;
  family = Ipv4;
  ports = record { name = []; proto = Tcp; port = Some 8080 } ∷ [];
  endpoints = endpoints;
}

-- a Service with these endpoints
abbrev pub with_endpoints : Service → List SliceEndpoint → ServiceSources
with_endpoints s endpoints = record { service = s; wanted = []; slices = slice_of s.key.name endpoints ∷ [] }

-- what the node knows of the ports of Services, in a zone or none
abbrev pub infos_in : Option (List ℕ) → List ServiceSources → List PortInfo
infos_in zone services = infos_from V4 (codes "n1") zone services

-- what it knows of the ports of one Service
abbrev pub infos : Service → List SliceEndpoint → List PortInfo
infos s endpoints = infos_in None (with_endpoints s endpoints ∷ [])

-- an endpoint as a destination
abbrev pub at_8080 : AddressParts → Endpoint
at_8080 address = record { address = address; port = 8080 }

-- the first endpoint
abbrev pub ep1 : Endpoint
ep1 = at_8080 (ipv4 10 244 1 2)

-- the second
abbrev pub ep2 : Endpoint
ep2 = at_8080 (ipv4 10 244 2 3)

-- the third
abbrev pub ep3 : Endpoint
ep3 = at_8080 (ipv4 10 244 3 4)

-- the name of a chain: its prefix, the Service's name and a digit of the endpoint's address
abbrev pub name_of : ChainKey → List ℕ
name_of (Port kind port) = port_chain_prefix kind ++ port.object.name
name_of (Sep port e) = codes "KUBE-SEP-" ++ port.object.name ++ (48 + e.address.number % 8) ∷ []

-- the setting of a configuration, with these names
abbrev pub setting_under : Config → Setting
setting_under c = record (setting_of V4 c) { name_of = name_of }

-- the setting of the node
abbrev pub setting : Setting
setting = setting_under config

-- the settings of all families of a configuration, with these names
abbrev pub settings_under : Config → Settings
settings_under c = record (settings_of c) { name_of = name_of }

-- the same, where names of chains are their prefixes alone
abbrev pub plain_setting : Setting
plain_setting = setting_of V4 (record config { name_length = 0; name_to = lit≤ tt })

-- recent lists of no source, with room for so many in each part
abbrev pub empty_lists : ℕ → RecentParts
empty_lists size = record { size = size; parts = map.empty }

-- with room for a hundred
abbrev pub no_lists : RecentParts
no_lists = empty_lists 100

-- a packet of TCP at the first moment
abbrev pub packet_to : Origin → AddressParts → AddressParts → ℕ → Packet
packet_to origin source target port = record {
  from = origin;
  source = source;
  target = target;
  proto = Tcp;
  port = port;
  now = 0;
}

-- one from the network
abbrev pub from_network : AddressParts → AddressParts → ℕ → Packet
from_network source target port = packet_to Wire source target port

-- one from this node
abbrev pub from_node : AddressParts → AddressParts → ℕ → Packet
from_node source target port = packet_to Node source target port

-- a pod that is no endpoint
abbrev pub other_pod : AddressParts
other_pod = ipv4 10 244 9 9

-- a client outside the cluster
abbrev pub client : AddressParts
client = ipv4 192 0 2 7

-- a packet from the network to the Service's cluster address
abbrev pub to_web : AddressParts → Packet
to_web source = from_network source (ipv4 10 96 0 10) 80
