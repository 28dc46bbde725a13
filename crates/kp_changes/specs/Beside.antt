-- The ports that may have a door at the destination of another one.
use Rattle.std.specs.Prelude.{◌==◌, ◌&&◌, ◌||◌, Bool, List, map, Option, Some, None, option_map}
use Rattle.std.specs.List.{filter, flat_map}
use Rattle.std.specs.Option.{option_to_list}
use Rattle.std.specs.FinMap as finite
use Rattle.kp_base.specs.Net.{AddressParts}
use Rattle.kp_base.specs.declared.address.Family.{Family}
use Rattle.kp_base.specs.declared.key.PortKey.{PortKey}
use Rattle.kp_types.specs.Ports.{same_proto}
use Rattle.kp_types.specs.Setting.{FamilyConfig}
use Rattle.kp_types.specs.declared.service.Service.{Service}
use Rattle.kp_types.specs.declared.service.ServicePort.{ServicePort}
use Rattle.kp_object_defs.specs.Objects.{Objects}
use Rattle.kp_object_defs.specs.PortByKey.{info_at}
use Rattle.kp_object_defs.specs.PortInfo.{PortInfo, port_key_of}
use Rattle.kp_door_defs.specs.Doors.{Door}
use Rattle.kp_store.specs.Destinations.{answers, is_node_port}
use Rattle.kp_changes.specs.Bare.{without_lists}

-- an address, or another one where there is none
abbrev pub address_or : AddressParts → Option AddressParts → AddressParts
address_or other None = other
address_or other (Some a) = a

-- the address that Services are looked up by: any, where a door is at the node's own
abbrev pub target_of : Door → AddressParts
target_of d = address_or d.info.address d.address

-- a port has a door's protocol, and its number as its own or as its node port
abbrev pub may_be_at : Door → ServicePort → Bool
may_be_at d p =
    same_proto p.proto d.info.key.proto
    && ((p.port == d.number) || is_node_port d.number p.node_port)

-- the names of such ports of a Service
abbrev pub names_in : Door → Service → List PortKey
names_in d s = map (port_key_of s) (filter (may_be_at d) s.ports)

-- the names of such ports of the Services that may answer there
abbrev pub names_at : Objects → Door → List PortKey
names_at o d =
    flat_map (names_in d)
    (filter (answers d.info.key.proto (target_of d) d.number) (finite.values o.services))

-- what is known of the port of a name but its endpoints, in a list
abbrev pub bare_infos_at : Family → FamilyConfig → Objects → PortKey → List PortInfo
bare_infos_at family config o key =
    option_to_list (option_map without_lists (info_at family config o key))
