-- One Service port found by its name, and the names of all ports in order: what is known of a port
-- can be asked for by itself, where only some objects changed.
use Rattle.std.specs.Prelude.{List, map, Option, option_and_then}
use Rattle.std.specs.List.{find, flat_map}
use Rattle.std.specs.FinMap as finite
use Rattle.kp_base.specs.Keys.{port_key_cmp}
use Rattle.kp_base.specs.declared.address.Family.{Family}
use Rattle.kp_base.specs.declared.key.PortKey.{PortKey}
use Rattle.kp_types.specs.Ports.{is_port}
use Rattle.kp_types.specs.Setting.{FamilyConfig}
use Rattle.kp_types.specs.declared.service.Service.{Service}
use Rattle.kp_types.specs.declared.service.ServicePort.{ServicePort}
use Rattle.kp_object_defs.specs.Objects.{Objects, zone_of}
use Rattle.kp_object_defs.specs.Order.{distinct_in_order}
use Rattle.kp_object_defs.specs.Entries.{sources_of}
use Rattle.kp_object_defs.specs.PortInfo.{PortInfo, port_key_of, info_of}

-- the names of a Service's ports
abbrev pub port_keys_of : Service → List PortKey
port_keys_of s = map (port_key_of s) s.ports

-- the names of all Service ports, in order
abbrev pub port_keys : Objects → List PortKey
port_keys o = distinct_in_order port_key_cmp (flat_map port_keys_of (finite.values o.services))

-- the port of a Service that has this name and protocol
abbrev pub port_named : PortKey → Service → Option ServicePort
port_named key s = find (is_port key.port_name key.proto) s.ports

-- what the proxy knows of the port of a Service that has this name and protocol
abbrev pub info_in : Family → FamilyConfig → Objects → PortKey → Service → Option PortInfo
info_in family config o key s =
    option_and_then
    (λ p. info_of family config.node (zone_of o config.node) (sources_of family config o s, p))
    (port_named key s)

-- what the proxy knows of the port of this name, if there is one that takes part
abbrev pub info_at : Family → FamilyConfig → Objects → PortKey → Option PortInfo
info_at family config o key =
    option_and_then (info_in family config o key) (finite.get o.services key.object)
