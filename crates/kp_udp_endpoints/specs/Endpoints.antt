-- The endpoints of lists of UDP ports, of each list once.
use Rattle.std.specs.Prelude.{ℕ, List, [], ◌++◌, cond, count_by, Option, Some, None}
use Rattle.std.specs.List.{flat_map}
use Rattle.kp_base.specs.Keys.{same_proto}
use Rattle.kp_base.specs.declared.address.Family.{Family}
use Rattle.kp_base.specs.declared.config.Config.{Config}
use Rattle.kp_base.specs.declared.key.Endpoint.{Endpoint}
use Rattle.kp_base.specs.declared.key.PortKey.{PortKey}
use Rattle.kp_base.specs.declared.port.Proto.TheVariants.{Udp}
use Rattle.kp_types.specs.Setting.{FamilyConfig, config_for, has_tables_of, table_families}
use Rattle.kp_choice_defs.specs.Settings.{setting_of, settings_of}
use Rattle.kp_object_defs.specs.Objects.{Objects}
use Rattle.kp_object_defs.specs.PortByKey.{info_at}
use Rattle.kp_object_defs.specs.PortInfo.{PortInfo, port_infos}
use Rattle.kp_history_defs.specs.DirtyPorts.{dirty_ports}
use Rattle.kp_history_defs.specs.declared.dirty.DirtyPort.{DirtyPort}
use Rattle.kp_track_defs.specs.Stands.{is_endpoint}

-- the endpoints of both lists of a port
abbrev pub listed : PortInfo → List Endpoint
listed i = i.lists.cluster ++ i.lists.local

-- those of a port of this name, if it is one of UDP
abbrev pub udp_listed : PortKey → PortInfo → List Endpoint
udp_listed key i = cond (same_proto key.proto Udp) (listed i) []

-- those of what is known of it
abbrev pub listed_if : PortKey → Option PortInfo → List Endpoint
listed_if key None = []
listed_if key (Some i) = udp_listed key i

-- those that a dirty port had
abbrev pub gone_of : DirtyPort → List Endpoint
gone_of d = listed_if d.key d.before

-- and those that it has by the objects
abbrev pub new_of : Family → FamilyConfig → Objects → DirtyPort → List Endpoint
new_of family config o d = listed_if d.key (info_at family config o d.key)

-- those of all ports of a family
abbrev pub listed_in : Config → Objects → Family → List Endpoint
listed_in config o family =
    flat_map (λ i. udp_listed i.key i) (port_infos family (config_for family config) o)

-- how many lists have an endpoint, in the families that the node has tables of
abbrev pub lists_with : Config → Objects → Endpoint → ℕ
lists_with config o e =
    count_by (is_endpoint e) (flat_map (listed_in config o) (table_families config))

-- the ports of which a family knows something else after than before, where the node has tables of
-- the family
abbrev pub dirty_in : Config → Objects → Objects → Family → List DirtyPort
dirty_in config before after family =
    cond (has_tables_of family (settings_of config))
    (dirty_ports (setting_of family config) before after) []
