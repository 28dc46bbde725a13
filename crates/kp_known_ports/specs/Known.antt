-- What is known of the ports of Services that the store has.
use Rattle.std.specs.Prelude.{◌≡◌, ℕ, List, [], cond, length, map, Contains, Option, Some, is_some}
use Rattle.std.specs.List.{sum_by}
use Rattle.std.specs.FinMap.{get, values}
use Rattle.kp_base.specs.Keys.{port_key_cmp}
use Rattle.kp_base.specs.declared.address.Family.{Family}
use Rattle.kp_base.specs.declared.key.PortKey.{PortKey}
use Rattle.kp_types.specs.Setting.{FamilyConfig}
use Rattle.kp_types.specs.declared.info.ServiceSources.{ServiceSources}
use Rattle.kp_types.specs.declared.service.Service.{Service}
use Rattle.kp_types.specs.declared.service.ServicePort.{ServicePort}
use Rattle.kp_object_defs.specs.Entries.{sources_of}
use Rattle.kp_object_defs.specs.Objects.{Objects}
use Rattle.kp_object_defs.specs.Order.{by_key}
use Rattle.kp_object_defs.specs.PortInfo.{PortInfo, cluster_address_in, info_of, name_of_port, ports_of}

-- each of the Services is the one that the objects have at its key
abbrev pub AreStored : Objects → List Service → Type 0
AreStored o services = (s : Service) → Contains services s → get o.services s.key ≡ Some s

-- the ports of a Service that takes part, where it has a cluster address of the family, by what its
-- endpoints are taken from
abbrev pub parts_of :
    Family → FamilyConfig → Objects → Service → List (ServiceSources × ServicePort)
parts_of family config o s =
    cond (is_some (cluster_address_in family s)) (ports_of (sources_of family config o s)) []

-- what is known of ports by their names, in order, on a node in a zone
abbrev pub known_ports :
    Family → List ℕ → Option (List ℕ) → List (ServiceSources × ServicePort)
    → List (PortKey × Option PortInfo)
known_ports family node zone ports =
    map (λ e. (e.0, info_of family node zone e.1)) (by_key port_key_cmp name_of_port ports)

-- how many ports a Service has
abbrev pub ports_in : Service → ℕ
ports_in s = length s.ports

-- how many ports Services have together, which is how many names of ports there are
abbrev pub port_count : List Service → ℕ
port_count services = sum_by ports_in services

-- how many ports all Services of the objects have together
abbrev pub all_port_count : Objects → ℕ
all_port_count o = port_count (values o.services)
