-- Worked examples of walks: on a node with the address 10.0.0.9, in a cluster whose pods have
-- addresses in 10.244.0.0/16, a Service has the cluster address 10.0.0.1 and the port 80 of TCP,
-- and its endpoints are pods.
use Rattle.std.specs.Prelude.{◌≡◌, ℕ, ◌+◌, ◌*◌, ◌^◌, true, false, List, [], ◌∷◌, not, codes, Option, Some, None, is_some}
use Rattle.std.specs.FinMap as map
use Rattle.std.proofs.Common.{lit≤}
use Rattle.kp_base.specs.Net.{AddressParts, RangeParts, v4_address}
use Rattle.kp_base.specs.declared.address.Family.TheVariants.{V4}
use Rattle.kp_base.specs.declared.port.Proto.{Proto}
use Rattle.kp_base.specs.declared.port.Proto.TheVariants.{Tcp, Udp}
use Rattle.kp_base.specs.declared.key.Endpoint.{Endpoint}
use Rattle.kp_base.specs.declared.config.Config.{Config}
use Rattle.kp_types.specs.Places.{chain_cmp}
use Rattle.kp_types.specs.Setting.{Setting, Settings}
use Rattle.kp_types.specs.declared.packet.Packet.{Packet}
use Rattle.kp_types.specs.declared.packet.Origin.TheVariants.{Wire, Node}
use Rattle.kp_types.specs.declared.service.Policy.TheVariants.{Cluster, Local}
use Rattle.kp_types.specs.declared.verdict.Verdict.{Verdict}
use Rattle.kp_types.specs.declared.verdict.Verdict.TheVariants.{To, Rejected, Dropped, LeftAlone}
use Rattle.kp_choice_defs.specs.Draws.{draw_of_list}
use Rattle.kp_choice_defs.specs.Names.{first_clash}
use Rattle.kp_choice_defs.specs.Recent.{RecentParts}
use Rattle.kp_choice_defs.specs.Settings.{setting_of, settings_of}
use Rattle.kp_object_defs.specs.Desired.{is_empty}
use Rattle.kp_object_defs.specs.PortInfo.{PortInfo}
use Rattle.kp_door_defs.specs.Decision.{decision_among}
use Rattle.kp_table_defs.specs.Layout.{rows_of}
use Rattle.kp_table_defs.specs.Rebuild.{needed_keys}
use Rattle.kp_table_defs.specs.StandIn.{stand_in_setting, stand_in_settings}
use Rattle.kp_table_defs.specs.Walk.{walk_of}
use Rattle.kp_table_laws.specs.Families.{chains_of_families}
use Rattle.kp_walk_laws.specs.Laws.{Agree}

-- the address 10.0.0.0 + n
abbrev pub host : ℕ → AddressParts
host n = v4_address (10 * 2 ^ 24 + n)

-- the address of the n-th pod of the node's range
abbrev pub pod : ℕ → AddressParts
pod n = v4_address (10 * 2 ^ 24 + 244 * 2 ^ 16 + n)

-- the node
abbrev pub config : Config
config = record {
  node = codes "node";
  addresses = host 9 ∷ [];
  cluster = Some (record { base = pod 0; bits = 16 });
  cluster6 = None;
  dual = false;
  masquerade_all = false;
  controller = false;
  max_per_slice = 100;
  max_events = 100;
  recent_size = 100;
  name_length = 16;
  slice_from = lit≤ tt;
  slice_to = lit≤ tt;
  events_from = lit≤ tt;
  events_to = lit≤ tt;
  recent_from = lit≤ tt;
  recent_to = lit≤ tt;
  name_to = lit≤ tt;
}

-- the n-th pod as an endpoint
abbrev pub endpoint_at : ℕ → Endpoint
endpoint_at n = record { address = pod n; port = 8080 }

-- a port of a Service of this name, at the address 10.0.0.0 + n, with these endpoints
abbrev pub port_of : List ℕ → ℕ → List Endpoint → PortInfo
port_of name n es = record {
  key = record {
    object = record { namespace = codes "default"; name = name };
    port_name = codes "http";
    proto = Tcp;
  };
  number = 80;
  address = host n;
  external = [];
  balancer = [];
  node_port = None;
  ranges = None;
  affinity = None;
  internal = Cluster;
  outer = Cluster;
  lists = record { cluster = es; local = []; has_any = not (is_empty es) };
}

-- the Service's port, with these endpoints
abbrev pub port_with : List Endpoint → PortInfo
port_with es = port_of (codes "web") 1 es

-- recent lists of no source
abbrev pub no_lists : RecentParts
no_lists = record { size = 100; parts = map.empty }

-- a packet from the network to the address 10.0.0.0 + n
abbrev pub packet_to : ℕ → AddressParts → Proto → Packet
packet_to n source proto = record {
  from = Wire;
  source = source;
  target = host n;
  proto = proto;
  port = 80;
  now = 0;
}

-- a packet from the network to the Service
abbrev pub packet_from : AddressParts → Proto → Packet
packet_from source proto = packet_to 1 source proto

-- the verdict of the walk of a packet with these draws, over the table of some ports
abbrev pub verdict_in : Setting → List PortInfo → Packet → List ℕ → Verdict
verdict_in setting infos packet draws =
    (walk_of (λ q. map.find chain_cmp q (rows_of setting infos)) setting.config.addresses
    packet (draw_of_list draws) no_lists).verdict

-- the verdict where the Service has these endpoints
abbrev pub verdict_on : List Endpoint → Packet → List ℕ → Verdict
verdict_on endpoints packet draws =
    verdict_in (stand_in_setting V4 config) (port_with endpoints ∷ []) packet draws

-- three endpoints
abbrev pub three : List Endpoint
three = endpoint_at 1 ∷ endpoint_at 2 ∷ endpoint_at 3 ∷ []

-- a packet of a pod goes to the one endpoint
abbrev pub OneEndpoint : Type 0
OneEndpoint =
    verdict_on (endpoint_at 1 ∷ []) (packet_from (pod 5) Tcp) [] ≡ To (endpoint_at 1) false

-- the last draw below one third of 2^31 goes to the first of three
abbrev pub FirstOfThree : Type 0
FirstOfThree =
    verdict_on three (packet_from (pod 5) Tcp) (715827882 ∷ []) ≡ To (endpoint_at 1) false

-- the next one goes on, and then the last draw below one half goes to the second
abbrev pub SecondOfThree : Type 0
SecondOfThree =
    verdict_on three (packet_from (pod 5) Tcp) (715827883 ∷ 1073741823 ∷ [])
    ≡ To (endpoint_at 2) false

-- and the one behind that to the third
abbrev pub ThirdOfThree : Type 0
ThirdOfThree =
    verdict_on three (packet_from (pod 5) Tcp) (715827883 ∷ 1073741824 ∷ [])
    ≡ To (endpoint_at 3) false

-- what an endpoint sends that goes to itself is masqueraded
abbrev pub ToItself : Type 0
ToItself = verdict_on three (packet_from (pod 1) Tcp) (0 ∷ []) ≡ To (endpoint_at 1) true

-- and so is what comes from outside the cluster
abbrev pub FromOutside : Type 0
FromOutside = verdict_on three (packet_from (host 5) Tcp) (0 ∷ []) ≡ To (endpoint_at 1) true

-- without endpoints a packet is rejected
abbrev pub NoEndpoints : Type 0
NoEndpoints = verdict_on [] (packet_from (pod 5) Tcp) [] ≡ Rejected

-- a packet of another protocol is no Service's
abbrev pub OtherProtocol : Type 0
OtherProtocol = verdict_on three (packet_from (pod 5) Udp) (0 ∷ []) ≡ LeftAlone

-- a configuration under which names are prefixes alone
abbrev pub prefix_config : Config
prefix_config = record config { name_length = 0; name_to = lit≤ tt }

-- its setting
abbrev pub prefixes : Setting
prefixes = setting_of V4 prefix_config

-- two Services, one of them without endpoints
abbrev pub two_ports : List PortInfo
two_ports = port_with (endpoint_at 1 ∷ []) ∷ port_of (codes "api") 2 [] ∷ []

-- The lists of both would have one name, but only one is needed, and so nothing clashes:
abbrev pub TwoUnclashed : Type 0
TwoUnclashed = first_clash prefixes.name_of (needed_keys two_ports) ≡ None

-- the one with an endpoint sends to it
abbrev pub FirstOfTwo : Type 0
FirstOfTwo = verdict_in prefixes two_ports (packet_to 1 (pod 5) Tcp) [] ≡ To (endpoint_at 1) false

-- and the other one rejects
abbrev pub SecondOfTwo : Type 0
SecondOfTwo = verdict_in prefixes two_ports (packet_to 2 (pod 5) Tcp) [] ≡ Rejected

-- the walk over the node's tables of some ports decides each packet, of either family, as these do
abbrev pub IsDecidedBy : Settings → List PortInfo → Type 0
IsDecidedBy settings infos =
    (packet : Packet) (draws : ℕ → ℕ) (lists : RecentParts)
    → Agree
    (walk_of (λ q. map.get (chains_of_families settings (λ family. infos)) q)
    settings.config.addresses packet draws lists)
    (decision_among settings (λ family. infos) packet draws lists)

-- and the walk decides each packet as the objects do
abbrev pub TwoDecided : Type 0
TwoDecided = IsDecidedBy (settings_of prefix_config) two_ports

-- With endpoints behind both, the lists clash.
abbrev pub TwoClashed : Type 0
TwoClashed =
    is_some (first_clash prefixes.name_of
    (needed_keys
    (port_with (endpoint_at 1 ∷ []) ∷ port_of (codes "api") 2 (endpoint_at 2 ∷ []) ∷ []))) ≡ true

-- ---- Every kind of door

-- the addresses 192.0.2.0 to 192.0.2.255
abbrev pub clients : RangeParts
clients = record { base = v4_address (192 * 2 ^ 24 + 2 * 2 ^ 8); bits = 24 }

-- the address 192.0.2.n
abbrev pub client : ℕ → AddressParts
client n = v4_address (192 * 2 ^ 24 + 2 * 2 ^ 8 + n)

-- A Service at 10.0.0.1, at 10.0.0.7 outside, at the load balancer 10.0.0.8 for these clients, and
-- at the port 30080 of the nodes, of whose three endpoints the first is on this node. What comes
-- from outside goes to that one alone.
abbrev pub every_door : Option ℕ → PortInfo
every_door affinity = record (port_of (codes "web") 1 three) {
  external = host 7 ∷ [];
  balancer = host 8 ∷ [];
  node_port = Some 30080;
  ranges = Some (clients ∷ []);
  affinity = affinity;
  outer = Local;
  lists = record { cluster = three; local = endpoint_at 1 ∷ []; has_any = true };
}

-- the verdict on a packet to its doors, without session affinity
abbrev pub verdict_at : Packet → List ℕ → Verdict
verdict_at packet draws =
    verdict_in (stand_in_setting V4 config) (every_door None ∷ []) packet draws

-- a client's packet to the outer address goes to this node's endpoint, and keeps its source
abbrev pub ClientOutside : Type 0
ClientOutside = verdict_at (packet_to 7 (client 5) Tcp) [] ≡ To (endpoint_at 1) false

-- a pod's goes to any endpoint
abbrev pub PodOutside : Type 0
PodOutside =
    verdict_at (packet_to 7 (pod 5) Tcp) (715827883 ∷ 0 ∷ []) ≡ To (endpoint_at 2) false

-- the node's own does too, and is masqueraded
abbrev pub NodeOutside : Type 0
NodeOutside =
    verdict_at (record (packet_to 7 (host 9) Tcp) { from = Node }) (715827883 ∷ 0 ∷ [])
    ≡ To (endpoint_at 2) true

-- the load balancer admits a client of its range
abbrev pub ClientAdmitted : Type 0
ClientAdmitted = verdict_at (packet_to 8 (client 255) Tcp) [] ≡ To (endpoint_at 1) false

-- and no other one
abbrev pub OtherDropped : Type 0
OtherDropped = verdict_at (packet_to 8 (host 5) Tcp) [] ≡ Dropped

-- the node port is open at the node's address
abbrev pub ClientAtNode : Type 0
ClientAtNode =
    verdict_at (record (packet_to 9 (client 5) Tcp) { port = 30080 }) [] ≡ To (endpoint_at 1) false

-- With session affinity and without it, the walk decides each packet as the objects do.
abbrev pub EveryDoorDecided : Type 0
EveryDoorDecided =
    (affinity : Option ℕ)
    → IsDecidedBy (stand_in_settings config) (every_door affinity ∷ [])
