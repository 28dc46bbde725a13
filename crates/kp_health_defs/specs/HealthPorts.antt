-- Health-check node ports: a load balancer asks each node whether it has local endpoints of a
-- Service of external traffic policy Local (Kubernetes API, Service `healthCheckNodePort`;
-- kube-proxy's service health server). That endpoints count by their addresses, that those which
-- serve and terminate don't count, and that a Service without a cluster address has no health port
-- is this project's choice where these documents leave it open.
use Rattle.std.specs.Prelude.{ℕ, ◌==◌, ◌&&◌, Bool, List, length, map, cond, Option, option_map, option_and_then, is_some, None}
use Rattle.std.specs.List.{filter, filter_map, flat_map, list_any}
use Rattle.std.specs.FinMap as finite
use Rattle.kp_base.specs.Net.{same_family}
use Rattle.kp_base.specs.Keys.{address_cmp}
use Rattle.kp_base.specs.declared.address.Family.{Family}
use Rattle.kp_base.specs.declared.config.Config.{Config}
use Rattle.kp_base.specs.declared.key.ObjectKey.{ObjectKey}
use Rattle.kp_types.specs.Setting.{node_config, table_families}
use Rattle.kp_types.specs.declared.service.Service.{Service}
use Rattle.kp_types.specs.declared.lists.Candidate.{Candidate}
use Rattle.kp_object_defs.specs.Objects.{Objects}
use Rattle.kp_object_defs.specs.Order.{by_key}
use Rattle.kp_object_defs.specs.Entries.{entries_of_both}
use Rattle.kp_object_defs.specs.Lists.{is_local_policy}
use Rattle.kp_object_defs.specs.PortInfo.{cluster_address_in, has_balancer, port_key_of}
use Rattle.kp_health_defs.specs.declared.health.Health.{Health}

-- ---- Which Services have a health port

-- a Service has a cluster address in one of these families
abbrev pub takes_part : List Family → Service → Bool
takes_part families s = list_any (λ family. is_some (cluster_address_in family s)) families

-- load balancers ask each node about a Service
abbrev pub is_asked_about : List Family → Service → Bool
is_asked_about families s =
    has_balancer s.kind && (is_local_policy s.outer && takes_part families s)

-- the health port of a Service
abbrev pub health_port : Config → Service → Option ℕ
health_port config s = cond (is_asked_about (table_families config) s) s.health None

-- ---- What counts

-- an endpoint is of one of these families
abbrev pub is_of_one : List Family → Candidate → Bool
is_of_one families c = list_any (same_family c.endpoint.address.family) families

-- a ready endpoint of this node counts, in these families
abbrev pub counts_in : List Family → Candidate → Bool
counts_in families c = c.local && (c.ready && is_of_one families c)

-- those of a Service's endpoints, port by port, that count
abbrev pub counting : List Family → List (List Candidate) → List Candidate
counting families per_port = filter (counts_in families) (flat_map (λ cs. cs) per_port)

-- how many addresses the endpoints have that count
abbrev pub local_count : List Family → List (List Candidate) → ℕ
local_count families per_port =
    length (by_key address_cmp (λ c. c.endpoint.address) (counting families per_port))

-- ---- What is answered

-- the status of HTTP: service unavailable where nothing counts (RFC 9110, 15)
abbrev pub status_by : ℕ → ℕ
status_by count = cond (count == 0) 503 200

-- what a port answers where so many addresses count
abbrev pub health_with : ObjectKey → ℕ → ℕ → Health
health_with service count port =
    record { service = service; port = port; status = status_by count; count = count }

-- what the health port of a Service answers, by its endpoints port by port
abbrev pub health_of : Config → Service → List (List Candidate) → Option Health
health_of config s per_port =
    option_map (health_with s.key (local_count (table_families config) per_port))
    (health_port config s)

-- ---- Objects

-- the endpoints of a Service, port by port
abbrev pub entries_by_port : Config → Objects → Service → List (List Candidate)
entries_by_port config o s =
    map (λ p. entries_of_both (node_config config) o s (port_key_of s p)) s.ports

-- what the health port of one of the Services answers
abbrev pub health_in : Config → Objects → Service → Option Health
health_in config o s = health_of config s (entries_by_port config o s)

-- what that of the Service of this key does
abbrev pub health_at : Config → Objects → ObjectKey → Option Health
health_at config o key = option_and_then (health_in config o) (finite.get o.services key)

-- what all health ports answer, in order of the Services
abbrev pub healths : Config → Objects → List Health
healths config o = filter_map (health_in config o) (finite.values o.services)
