-- Doors: the destinations that Services answer on, and the endpoints that a door offers to a source
-- (Kubernetes documents on Services: cluster IP, external IPs, load balancers with source ranges, node
-- ports; traffic policies). The order of doors is this project's choice.
use Rattle.std.specs.Prelude.{ℕ, ◌==◌, ◌&&◌, ◌||◌, Bool, true, false, List, [], ◌∷◌, ◌++◌, map, not, cond, Option, Some, None}
use Rattle.std.specs.List.{list_any, find, flat_map}
use Rattle.kp_base.specs.Net.{AddressParts, RangeParts, same_address, range_contains, loopback_range, is_local_address}
use Rattle.kp_base.specs.declared.address.Family.{Family}
use Rattle.kp_base.specs.declared.key.Endpoint.{Endpoint}
use Rattle.kp_types.specs.Setting.{FamilyConfig}
use Rattle.kp_types.specs.Ports.{same_proto}
use Rattle.kp_types.specs.declared.packet.Packet.{Packet}
use Rattle.kp_types.specs.declared.service.Policy.{Policy}
use Rattle.kp_types.specs.declared.service.Policy.TheVariants.{Cluster, Local}
use Rattle.kp_types.specs.declared.decision.DoorKind.{DoorKind}
use Rattle.kp_types.specs.declared.decision.DoorKind.TheVariants as door
use Rattle.kp_types.specs.declared.decision.ListKind.{ListKind}
use Rattle.kp_types.specs.declared.decision.ListKind.TheVariants as list_kind
use Rattle.kp_object_defs.specs.Desired.{is_empty}
use Rattle.kp_object_defs.specs.PortInfo.{PortInfo}

-- a destination that a Service port answers on: an address, or any of the node's own but loopback
pub record Door : Type 0 where
  pub kind : DoorKind
  pub info : PortInfo
  pub address : Option AddressParts
  pub number : ℕ

-- what a door offers to a source: a list of endpoints, and which one
pub record Offer : Type 0 where
  pub kind : ListKind
  pub endpoints : List Endpoint

-- the door of a port at an address
abbrev pub door_at : DoorKind → PortInfo → AddressParts → Door
door_at kind i a = record { kind = kind; info = i; address = Some a; number = i.number }

-- the doors of a port at addresses: its cluster address, its external and its load-balancer addresses
abbrev pub address_doors : PortInfo → List Door
address_doors i =
    door_at door.Cluster i i.address ∷ map (door_at door.External i) i.external ++ map (door_at door.Balancer i) i.balancer

-- the door of a node port
abbrev pub node_door : PortInfo → Option ℕ → List Door
node_door i None = []
node_door i (Some n) = record { kind = door.Node; info = i; address = None; number = n } ∷ []

-- all doors in order: those at addresses by port, and then those of node ports
abbrev pub doors_of : List PortInfo → List Door
doors_of infos = flat_map address_doors infos ++ flat_map (λ i. node_door i i.node_port) infos

-- a destination is that of a door of this family: its address, or any of the node's own outside the family's
-- loopback range
abbrev pub is_at : Family → List AddressParts → Option AddressParts → AddressParts → Bool
is_at family node_addresses (Some a) t = same_address a t
is_at family node_addresses None t =
    is_local_address node_addresses t && not (range_contains (loopback_range family) t)

-- the packet is for the door: its protocol, its destination and its port
abbrev pub fits : List AddressParts → Packet → Door → Bool
fits node_addresses packet d =
    same_proto d.info.key.proto packet.proto && (d.number == packet.port)
    && is_at d.info.address.family node_addresses d.address packet.target

-- a range, where there is one, has the address
abbrev pub is_in_range : Option RangeParts → AddressParts → Bool
is_in_range None a = false
is_in_range (Some r) a = range_contains r a

-- the source is a pod's: it is in the cluster's range
abbrev pub is_in_cluster : FamilyConfig → AddressParts → Bool
is_in_cluster config source = is_in_range config.cluster source

-- a list of a port, by policy
abbrev pub offer_by_policy : PortInfo → Policy → Offer
offer_by_policy i Cluster = record { kind = list_kind.Cluster; endpoints = i.lists.cluster }
offer_by_policy i Local = record { kind = list_kind.Local; endpoints = i.lists.local }

-- what the external traffic policy offers; a source of the cluster or of the node may use all endpoints
abbrev pub outer_offer : FamilyConfig → PortInfo → Policy → AddressParts → Offer
outer_offer config i Cluster source = offer_by_policy i Cluster
outer_offer config i Local source =
    cond (is_in_cluster config source || is_local_address config.addresses source)
    (offer_by_policy i Cluster) (offer_by_policy i Local)

-- the source is in the ranges, if there are any
abbrev pub is_admitted : Option (List RangeParts) → AddressParts → Bool
is_admitted None source = true
is_admitted (Some ranges) source = list_any (λ r. range_contains r source) ranges

-- an offer to those that are admitted, and nothing to others
abbrev pub offer_if : Bool → Offer → Offer
offer_if true o = o
offer_if false o = record { kind = o.kind; endpoints = [] }

-- what a door offers to a source
abbrev pub offered : FamilyConfig → DoorKind → PortInfo → AddressParts → Offer
offered config door.Cluster i source = offer_by_policy i i.internal
offered config door.External i source = outer_offer config i i.outer source
offered config door.Balancer i source = offer_if (is_admitted i.ranges source) (outer_offer config i i.outer source)
offered config door.Node i source = outer_offer config i i.outer source

-- what a door offers to a packet
abbrev pub offer_of : FamilyConfig → Packet → Door → Offer
offer_of config packet d = offered config d.kind d.info packet.source

-- the door takes the packet: it fits, and offers an endpoint
abbrev pub takes : FamilyConfig → Packet → Door → Bool
takes config packet d = fits config.addresses packet d && not (is_empty (offer_of config packet d).endpoints)

-- the first door that takes the packet
abbrev pub taking_door : FamilyConfig → List PortInfo → Packet → Option Door
taking_door config infos packet = find (takes config packet) (doors_of infos)
