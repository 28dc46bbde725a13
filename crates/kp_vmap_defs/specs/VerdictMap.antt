-- The map of some objects: in each family of the node the doors by where they stand, in the order of doors, and
-- what is known of each port (maps of verdicts as nftables has them, without its text; the order of doors is
-- this project's choice).
use Rattle.std.specs.Prelude.{List, [], ◌++◌, map, cond, Option, Some, None}
use Rattle.std.specs.FinMap as finite
use Rattle.std.specs.List.{filter}
use Rattle.std.specs.Option.{option_cmp}
use Rattle.std.specs.Ordering.{eq_by_cmp, nat_cmp, ordering_then}
use Rattle.std.specs.declared.cmp.Ordering.{Ordering}
use Rattle.kp_base.specs.Net.{AddressParts}
use Rattle.kp_base.specs.Keys.{address_cmp, port_key_cmp, proto_place}
use Rattle.kp_base.specs.declared.address.Family.{Family}
use Rattle.kp_base.specs.declared.address.Family.TheVariants.{V4, V6}
use Rattle.kp_base.specs.declared.config.Config.{Config}
use Rattle.kp_types.specs.Setting.{config_for, has_tables_of}
use Rattle.kp_types.specs.declared.service.Service.{Service}
use Rattle.kp_types.specs.declared.service.ServicePort.{ServicePort}
use Rattle.kp_choice_defs.specs.Settings.{settings_of}
use Rattle.kp_object_defs.specs.Objects.{Objects}
use Rattle.kp_object_defs.specs.PortInfo.{PortInfo, cluster_address_in, info_from, port_infos}
use Rattle.kp_door_defs.specs.Doors.{Door, address_doors, doors_of, node_door}
use Rattle.kp_vmap_defs.specs.declared.door.Destination.{Destination}
use Rattle.kp_vmap_defs.specs.declared.door.MapDoor.{MapDoor}

-- ---- Doors, and where they stand

-- a door without what is known of its port
abbrev pub map_door : Door → MapDoor
map_door d = record {
  kind = d.kind;
  target = d.address;
  proto = d.info.key.proto;
  port = d.number;
  owner = d.info.key;
}

-- where a door stands
abbrev pub destination_of : MapDoor → Destination
destination_of d = record { target = d.target; proto = d.proto; port = d.port }

-- by address, those of node ports first, then by protocol, and then by number
abbrev pub destination_cmp : Destination → Destination → Ordering
destination_cmp a b =
    ordering_then (option_cmp address_cmp a.target b.target)
    (ordering_then (nat_cmp (proto_place a.proto) (proto_place b.proto)) (nat_cmp a.port b.port))

-- the doors of a port, in order: those at addresses, and then that of its node port
abbrev pub port_doors : PortInfo → List MapDoor
port_doors i = map map_door (address_doors i ++ node_door i i.node_port)

-- the doors of a port of a Service in a family, if it has this cluster address or none there
abbrev pub doors_by_address : Family → Service → ServicePort → Option AddressParts → List MapDoor
doors_by_address family s p None = []
doors_by_address family s p (Some a) = port_doors (info_from family s p None [] a)

-- the doors of a port of a Service in a family
abbrev pub doors_of_service : Family → Service → ServicePort → List MapDoor
doors_of_service family s p = doors_by_address family s p (cluster_address_in family s)

-- ---- The map

-- those of some doors that stand at a destination
abbrev pub doors_at : List MapDoor → Destination → List MapDoor
doors_at doors at = filter (λ d. eq_by_cmp destination_cmp at (destination_of d)) doors

-- each destination of some doors, with those that stand there
abbrev pub destinations : List MapDoor → List (Destination × List MapDoor)
destinations doors = map (λ d. (destination_of d, doors_at doors (destination_of d))) doors

-- the doors by where they stand, each list in the order of doors
abbrev pub by_destination : List MapDoor → finite.FinMap destination_cmp (List MapDoor)
by_destination doors = finite.from_entries (destinations doors)

-- ports by their names
abbrev pub by_name : List PortInfo → finite.FinMap port_key_cmp PortInfo
by_name infos = finite.from_entries (map (λ i. (i.key, i)) infos)

-- what a map has of one family: doors by where they stand, and ports by their names
pub record FamilyMap : Type 0 where
  pub doors : finite.FinMap destination_cmp (List MapDoor)
  pub infos : finite.FinMap port_key_cmp PortInfo

-- the map of ports in order
abbrev pub map_of_infos : List PortInfo → FamilyMap
map_of_infos infos = record {
  doors = by_destination (map map_door (doors_of infos));
  infos = by_name infos;
}

-- A map under a configuration, of which decisions ask the node's addresses and ranges and how chains are named.
pub record VerdictMap : Type 0 where
  pub config : Config
  pub four : FamilyMap
  pub six : FamilyMap

-- what it has of a family
abbrev pub map_in : Family → VerdictMap → FamilyMap
map_in V4 m = m.four
map_in V6 m = m.six

-- what is known of the ports in a family, none where the node has no tables of it
abbrev pub infos_of : Config → Objects → Family → List PortInfo
infos_of config o family =
    cond (has_tables_of family (settings_of config)) (port_infos family (config_for family config) o) []

-- the map of some objects under a configuration
abbrev pub map_of : Config → Objects → VerdictMap
map_of config o = record {
  config = config;
  four = map_of_infos (infos_of config o V4);
  six = map_of_infos (infos_of config o V6);
}
