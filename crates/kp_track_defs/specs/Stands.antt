-- Which endpoints stand: those that a UDP port of a Service with a cluster address may send to, in a
-- family of the node. kube-proxy deletes the entries of UDP endpoints that went, by Service; that an
-- endpoint stands for all Services together is this project's choice.
use Rattle.std.specs.Prelude.{◌&&◌, ◌||◌, Bool, List}
use Rattle.std.specs.List.{list_any}
use Rattle.kp_base.specs.Keys.{same_proto}
use Rattle.kp_base.specs.Net.{same_address}
use Rattle.std.specs.Prelude.{◌==◌}
use Rattle.kp_base.specs.declared.config.Config.{Config}
use Rattle.kp_base.specs.declared.key.Endpoint.{Endpoint}
use Rattle.kp_base.specs.declared.port.Proto.TheVariants.{Udp}
use Rattle.kp_types.specs.Setting.{config_for, table_families}
use Rattle.kp_object_defs.specs.Objects.{Objects}
use Rattle.kp_object_defs.specs.PortInfo.{PortInfo, port_infos}

-- whether two endpoints are one
abbrev pub is_endpoint : Endpoint → Endpoint → Bool
is_endpoint a b = same_address a.address b.address && (a.port == b.port)

-- a list has an endpoint
abbrev pub has_endpoint : Endpoint → List Endpoint → Bool
has_endpoint e es = list_any (λ other. is_endpoint other e) es

-- a UDP port has an endpoint in one of its lists
abbrev pub has_in_lists : Endpoint → PortInfo → Bool
has_in_lists e i =
    same_proto i.key.proto Udp
    && (has_endpoint e i.lists.cluster || has_endpoint e i.lists.local)

-- an endpoint stands in what is known of ports
abbrev pub stands_in : List PortInfo → Endpoint → Bool
stands_in infos e = list_any (has_in_lists e) infos

-- an endpoint stands by the objects, in a family of the node
abbrev pub stands_by : Config → Objects → Endpoint → Bool
stands_by config o e =
    list_any (λ family. stands_in (port_infos family (config_for family config) o) e)
    (table_families config)
