-- What holds of a Service port that is found by its name.
use Rattle.std.specs.Prelude.{◌≡◌, Contains, Some}
use Rattle.std.specs.List.{filter_map}
use Rattle.kp_base.specs.declared.address.Family.{Family}
use Rattle.kp_base.specs.declared.key.PortKey.{PortKey}
use Rattle.kp_types.specs.Setting.{FamilyConfig}
use Rattle.kp_types.specs.declared.service.Service.{Service}
use Rattle.kp_types.specs.declared.service.ServicePort.{ServicePort}
use Rattle.kp_object_defs.specs.Objects.{Objects}
use Rattle.kp_object_defs.specs.OwnKeys.{AreUnderOwnKeys}
use Rattle.kp_object_defs.specs.PortInfo.{PortInfo, port_key_of, port_infos}
use Rattle.kp_object_defs.specs.PortByKey.{port_keys, port_named, info_at}

-- a port of a Service is found by its name and protocol
abbrev pub PortIsNamed : Type 0
PortIsNamed =
    (s : Service) (p : ServicePort)
    → Contains s.ports p → port_named (port_key_of s p) s ≡ Some p

-- what is found by a name has this name
abbrev pub InfoHasKey : Type 0
InfoHasKey =
    (family : Family) (config : FamilyConfig) (o : Objects) (key : PortKey) (i : PortInfo)
    → AreUnderOwnKeys o → info_at family config o key ≡ Some i → i.key ≡ key

-- what is known of all ports is what is found by their names in order
abbrev pub InfosByKeys : Type 0
InfosByKeys =
    (family : Family) (config : FamilyConfig) (o : Objects)
    → AreUnderOwnKeys o
    → port_infos family config o ≡ filter_map (info_at family config o) (port_keys o)
