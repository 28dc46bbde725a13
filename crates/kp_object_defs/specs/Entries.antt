-- The endpoints of one Service port, each address and port once (Kubernetes documents on
-- EndpointSlices, "Duplicate endpoints"; kube-proxy's EndpointSliceCache). Which of several entries
-- of one address and port counts, and the order, are this project's choice.
use Rattle.std.specs.Prelude.{ℕ, ◌&&◌, Bool, true, false, List, [], ◌∷◌, ◌++◌, map, reverse, not, cond, bytes_eq, Option, Some, None, option_map, option_and_then, slice_get}
use Rattle.std.specs.List.{filter, filter_map, flat_map}
use Rattle.std.specs.FinMap as finite
use Rattle.kp_base.specs.Net.{AddressParts, same_family}
use Rattle.kp_base.specs.Keys.{endpoint_cmp}
use Rattle.kp_base.specs.declared.address.Family.{Family}
use Rattle.kp_base.specs.declared.address.Family.TheVariants.{V4, V6}
use Rattle.kp_base.specs.declared.port.Proto.{Proto}
use Rattle.kp_base.specs.declared.key.ObjectKey.{ObjectKey}
use Rattle.kp_base.specs.declared.key.PortKey.{PortKey}
use Rattle.kp_types.specs.Setting.{FamilyConfig, NodeConfig, both_families, config_of_family}
use Rattle.kp_types.specs.Ports.{same_proto}
use Rattle.kp_types.specs.declared.service.Service.{Service}
use Rattle.kp_types.specs.declared.slice.AddressType.{AddressType}
use Rattle.kp_types.specs.declared.slice.AddressType.TheVariants.{Ipv4, Ipv6, Fqdn}
use Rattle.kp_types.specs.declared.slice.SlicePort.{SlicePort}
use Rattle.kp_types.specs.declared.slice.SliceEndpoint.{SliceEndpoint}
use Rattle.kp_types.specs.declared.slice.Slice.{Slice}
use Rattle.kp_types.specs.declared.slice.Wanted.{Wanted}
use Rattle.kp_types.specs.declared.lists.Candidate.{Candidate}
use Rattle.kp_types.specs.declared.info.ServiceSources.{ServiceSources}
use Rattle.kp_object_defs.specs.Objects.{Objects}
use Rattle.kp_object_defs.specs.Order.{in_order, values_of}
use Rattle.kp_object_defs.specs.Desired.{is_reconciled, desired_endpoints_of, address_in}

-- slices of this address type have endpoints of this family
abbrev pub is_type_of : Family → AddressType → Bool
is_type_of V4 Ipv4 = true
is_type_of V4 Ipv6 = false
is_type_of V4 Fqdn = false
is_type_of V6 Ipv4 = false
is_type_of V6 Ipv6 = true
is_type_of V6 Fqdn = false

-- the number of a slice port, where it has this name and protocol
abbrev pub number_if : List ℕ → Proto → SlicePort → Option ℕ
number_if name proto p = cond (bytes_eq p.name name && same_proto p.proto proto) p.port None

-- the number of the first slice port of this name and protocol that has one
abbrev pub number_at : List ℕ → Proto → List SlicePort → Option ℕ
number_at name proto ports = slice_get (filter_map (number_if name proto) ports) 0

-- whether there is a name, and it is this one
abbrev pub is_named : List ℕ → Option (List ℕ) → Bool
is_named name None = false
is_named name (Some other) = bytes_eq other name

-- whether an endpoint of a node is on this node
abbrev pub is_on_node : List ℕ → Option (List ℕ) → Bool
is_on_node node name = is_named node name

-- the candidate of a slice's endpoint at an address and port
abbrev pub candidate_at : List ℕ → SliceEndpoint → ℕ → AddressParts → Candidate
candidate_at node e number address = record {
  endpoint = record { address = address; port = number };
  ready = e.ready;
  serving = e.serving;
  terminating = e.terminating;
  local = is_on_node node e.node;
  hints = e.hints;
}

-- the candidate of a slice's endpoint, where it has an address of the family and the port has a
-- number
abbrev pub candidate_of : Family → List ℕ → Option ℕ → SliceEndpoint → Option Candidate
candidate_of family node number e =
    option_and_then
    (λ n. option_map (candidate_at node e n) (option_and_then (address_in family) e.address)) number

-- the candidates of a slice at a Service port
abbrev pub slice_candidates : Family → List ℕ → PortKey → Slice → List Candidate
slice_candidates family node port slice =
    cond (is_type_of family slice.family)
    (filter_map (candidate_of family node (number_at port.port_name port.proto slice.ports))
    slice.endpoints) []

-- the candidate of a wanted endpoint at a Service port
abbrev pub wanted_candidate : Family → List ℕ → PortKey → Wanted → Option Candidate
wanted_candidate family node port w =
    candidate_of family node (number_at port.port_name port.proto w.ports) w.entry

-- the slice's label names this Service, in the slice's namespace
abbrev pub is_of_service : ObjectKey → Slice → Bool
is_of_service service slice =
    bytes_eq slice.key.namespace service.namespace && is_named service.name slice.service

-- The candidates of a port in their order: the wanted endpoints of a Service that the controller
-- makes slices for and then its other slices, or all slices of another Service.
abbrev pub candidates_from : Family → List ℕ → PortKey → List Wanted → List Slice → List Candidate
candidates_from family node port wanted slices =
    filter_map (wanted_candidate family node port) wanted
    ++ flat_map (slice_candidates family node port) slices

-- the slices of a Service, in order of their names
abbrev pub slices_of : Objects → ObjectKey → List Slice
slices_of o service = filter (is_of_service service) (finite.values o.slices)

-- the slices that the controller doesn't manage
abbrev pub unmanaged : List Slice → List Slice
unmanaged slices = filter (λ s. not s.managed) slices

-- Each address and port once, in order: of entries with one address and port the last one on this
-- node counts, or else the first.
abbrev pub counted_once : List Candidate → List Candidate
counted_once cs =
    values_of
    (in_order endpoint_cmp
    (map (λ c. (c.endpoint, c)) (reverse (filter (λ c. c.local) cs) ++ cs)))

-- a candidate is of this family
abbrev pub is_of_family : Family → Candidate → Bool
is_of_family family c = same_family c.endpoint.address.family family

-- the family of a port's candidates, of which all have the same; without any it doesn't matter
abbrev pub family_among : List Candidate → Family
family_among [] = V4
family_among (c ∷ cs) = c.endpoint.address.family

-- what the endpoints of a Service are taken from: the wanted ones and slices that others made,
-- where the controller makes slices for it, or else all its slices
abbrev pub sources_of : Family → FamilyConfig → Objects → Service → ServiceSources
sources_of family config o s =
    cond (is_reconciled config s)
    (record {
      service = s;
      wanted = desired_endpoints_of family o s;
      slices = unmanaged (slices_of o s.key);
    })
    (record { service = s; wanted = []; slices = slices_of o s.key })

-- the endpoints of a port, on this node and elsewhere, by what they are taken from
abbrev pub entries_from : Family → List ℕ → ServiceSources → PortKey → List Candidate
entries_from family node sources port =
    counted_once (candidates_from family node port sources.wanted sources.slices)

-- the endpoints of a port of a Service
abbrev pub entries_of : Family → FamilyConfig → Objects → Service → PortKey → List Candidate
entries_of family config o s port =
    entries_from family config.node (sources_of family config o s) port

-- the endpoints of a port in both families, IPv4 before IPv6
abbrev pub entries_of_both : NodeConfig → Objects → Service → PortKey → List Candidate
entries_of_both config o s port =
    flat_map (λ family. entries_of family (config_of_family family config) o s port) both_families
