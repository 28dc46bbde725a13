-- How a Service is read (Kubernetes API, Service v1): its rows, and the Service where no row is at fault. Which
-- members are read, and their bounds, is this project's choice.
use Rattle.std.specs.Prelude.{◌≡◌, ℕ, zero, suc, Bool, true, false, List, [], ◌∷◌, map, cond, bytes_eq, codes, Option, Some, None, option_map, is_none, option_and_then, unwrap_or, Result, Ok, Err, refl}
use Rattle.std.specs.List.{filter_map, list_any}
use Rattle.std.specs.Map.{lookup}
use Rattle.kp_json.specs.Answers.{fault_at}
use Rattle.kp_json.specs.Places.{Place, member_at}
use Rattle.kp_json.specs.declared.fault.Why.TheVariants.{DuplicatePort}
use Rattle.kp_json.specs.declared.fault.BadField.{BadField}
use Rattle.kp_lemmas.specs.Lists.{first_places}
use Rattle.kp_base.specs.Net.{AddressParts, RangeParts, same_family}
use Rattle.kp_base.specs.Six.{any_address_of}
use Rattle.kp_base.specs.declared.address.Family.{Family}
use Rattle.kp_base.specs.declared.address.Family.TheVariants.{V4, V6}
use Rattle.kp_types.specs.Ports.{distinct_ports}
use Rattle.kp_types.specs.declared.service.Service.{Service}
use Rattle.kp_types.specs.declared.service.ServicePort.{ServicePort}
use Rattle.kp_types.specs.declared.service.Six.{Six}
use Rattle.kp_types.specs.declared.service.ServiceKind.{ServiceKind}
use Rattle.kp_types.specs.declared.service.ServiceKind.TheVariants.{ClusterIp, NodePort, LoadBalancer, ExternalName}
use Rattle.kp_types.specs.declared.service.Policy.{Policy}
use Rattle.kp_types.specs.declared.service.Policy.TheVariants.{Cluster, Local}
use Rattle.kp_types.specs.declared.service.ClusterAddress.{ClusterAddress}
use Rattle.kp_types.specs.declared.service.ClusterAddress.TheVariants.{Absent, Headless, At}
use Rattle.kp_types.specs.declared.service.TargetPort.{TargetPort}
use Rattle.kp_types.specs.declared.service.TargetPort.TheVariants.{Number, Named}
use Rattle.kp_row_defs.specs.Fields.{inner, text_of, text_in, flag_in, whole_of, whole_in, items_in, is_text, chosen, texts_of, protocols, proto_in, port_name_in, address_at, address_in, range_at, pairs_in, key_in}
use Rattle.kp_row_defs.specs.Metadata.{key_row}
use Rattle.kp_row_defs.specs.Rows.{Row, Rows, done, ◌▸◌, field, inside, each, each_port, itself, needed, optional, any_text, port_name_text, address_text, range_text, cluster_address_text, choice, whole, whole_or_text, truth_value, texts, address_rows, rows_fault}
use Rattle.kp_event_defs.specs.FamilyParts.{addresses_of, first_address, ranges_in}

-- types of Services
abbrev pub service_kinds : List (List ℕ × ServiceKind)
service_kinds =
    (codes "ClusterIP", ClusterIp) ∷ (codes "NodePort", NodePort) ∷ (codes "LoadBalancer", LoadBalancer)
    ∷ (codes "ExternalName", ExternalName) ∷ []

-- traffic policies
abbrev pub policies : List (List ℕ × Policy)
policies = (codes "Cluster", Cluster) ∷ (codes "Local", Local) ∷ []

-- session affinity by client address, off or on
abbrev pub affinities : List (List ℕ × Bool)
affinities = (codes "None", false) ∷ (codes "ClientIP", true) ∷ []

-- address families
abbrev pub address_families : List (List ℕ × Family)
address_families = (codes "IPv4", V4) ∷ (codes "IPv6", V6) ∷ []

-- the rows of one port
abbrev pub service_port_rows : Rows
service_port_rows =
    field (codes "name") optional port_name_text
    ▸ field (codes "protocol") optional (choice (texts_of protocols))
    ▸ field (codes "port") needed (whole 1 65535)
    ▸ field (codes "targetPort") optional (whole_or_text 0 65535)
    ▸ field (codes "nodePort") optional (whole 0 65535)
    ▸ done

-- the ports
abbrev pub ports_row : Row
ports_row = each_port (codes "ports") service_port_rows

-- the external addresses
abbrev pub external_row : Row
external_row = each (codes "externalIPs") address_rows

-- the rows of the timeout of session affinity by client address
abbrev pub timeout_rows : Rows
timeout_rows = field (codes "timeoutSeconds") optional (whole 1 86400) ▸ done

-- the rows of the configuration of session affinity
abbrev pub client_rows : Rows
client_rows = inside (codes "clientIP") optional timeout_rows ▸ done

-- the configuration of session affinity
abbrev pub affinity_row : Row
affinity_row = inside (codes "sessionAffinityConfig") optional client_rows

-- the rows of a source range
abbrev pub range_rows : Rows
range_rows = itself range_text ▸ done

-- the source ranges
abbrev pub ranges_row : Row
ranges_row = each (codes "loadBalancerSourceRanges") range_rows

-- the rows of a cluster address in a list
abbrev pub cluster_rows : Rows
cluster_rows = itself cluster_address_text ▸ done

-- the cluster addresses of both families
abbrev pub cluster_list_row : Row
cluster_list_row = each (codes "clusterIPs") cluster_rows

-- the rows of an address family in a list
abbrev pub family_rows : Rows
family_rows = itself (choice (texts_of address_families)) ▸ done

-- the address families
abbrev pub families_row : Row
families_row = each (codes "ipFamilies") family_rows

-- the rows of `spec`
abbrev pub service_spec_rows : Rows
service_spec_rows =
    field (codes "type") optional (choice (texts_of service_kinds))
    ▸ field (codes "clusterIP") optional cluster_address_text
    ▸ cluster_list_row
    ▸ families_row
    ▸ ports_row
    ▸ field (codes "selector") optional texts
    ▸ external_row
    ▸ field (codes "sessionAffinity") optional (choice (texts_of affinities))
    ▸ affinity_row
    ▸ field (codes "internalTrafficPolicy") optional (choice (texts_of policies))
    ▸ field (codes "externalTrafficPolicy") optional (choice (texts_of policies))
    ▸ field (codes "publishNotReadyAddresses") optional truth_value
    ▸ ranges_row
    ▸ field (codes "trafficDistribution") optional any_text
    ▸ field (codes "healthCheckNodePort") optional (whole 0 65535)
    ▸ done

-- the rows of an address that a load balancer gave
abbrev pub ingress_rows : Rows
ingress_rows = field (codes "ip") optional address_text ▸ field (codes "ipMode") optional any_text ▸ done

-- the rows of `status.loadBalancer`
abbrev pub ingress_list_rows : Rows
ingress_list_rows = each (codes "ingress") ingress_rows ▸ done

-- the rows of `status`
abbrev pub load_balancer_rows : Rows
load_balancer_rows = inside (codes "loadBalancer") optional ingress_list_rows ▸ done

-- the status
abbrev pub status_row : Row
status_row = inside (codes "status") optional load_balancer_rows

-- the rows of a Service
abbrev pub service_rows : Rows
service_rows = key_row ▸ inside (codes "spec") needed service_spec_rows ▸ status_row ▸ done

-- ---- What a Service has of each family

-- what a list writes, or else what stands beside it
abbrev pub listed_or : List (Option AddressParts) → Option (Option AddressParts) → List (Option AddressParts)
listed_or [] None = []
listed_or [] (Some single) = single ∷ []
listed_or (c ∷ cs) single = c ∷ cs

-- The cluster addresses as they are written: those of `clusterIPs`, or else `clusterIP` (API reference,
-- ServiceSpec). None stands for the text `None`, the only one without a fault that isn't an address.
abbrev pub written_clusters : Place → List (Option AddressParts)
written_clusters spec =
    listed_or (map address_at (items_in (codes "clusterIPs") spec))
    (option_map any_address_of (text_in (codes "clusterIP") spec))

-- `None` anywhere makes a Service headless (Kubernetes documents, "Headless Services")
abbrev pub is_headless : List (Option AddressParts) → Bool
is_headless written = list_any is_none written

-- the cluster addresses that are written: none of a headless Service
abbrev pub cluster_addresses : List (Option AddressParts) → List AddressParts
cluster_addresses written = cond (is_headless written) [] (filter_map (λ c. c) written)

-- a cluster address, where there is one
abbrev pub at_address : Option AddressParts → ClusterAddress
at_address None = Absent
at_address (Some a) = At a

-- the IPv4 cluster address of a Service
abbrev pub cluster_of : List (Option AddressParts) → ClusterAddress
cluster_of written =
    cond (is_headless written) Headless (at_address (first_address V4 (cluster_addresses written)))

-- the family that a text names
abbrev pub family_at : Place → Option Family
family_at p = option_and_then (λ text. lookup (bytes_eq text) address_families) (text_of p)

-- The families of a Service: those that it lists, or else those of its cluster addresses, or else IPv4 (Kubernetes
-- documents, "IPv4/IPv6 dual-stack"; without both, this project's choice).
abbrev pub families_of : List Family → List AddressParts → List Family
families_of [] [] = V4 ∷ []
families_of [] (a ∷ others) = first_places same_family (map (λ b. b.family) (a ∷ others))
families_of (f ∷ fs) addresses = first_places same_family (f ∷ fs)

-- the external addresses of both families
abbrev pub external_addresses : Place → List AddressParts
external_addresses spec = filter_map address_at (items_in (codes "externalIPs") spec)

-- a list of ranges, where it isn't empty
abbrev pub ranges_of : List Place → Option (List RangeParts)
ranges_of [] = None
ranges_of (p ∷ ps) = Some (filter_map range_at (p ∷ ps))

-- the source ranges of both families, where there is a restriction
abbrev pub source_ranges : Place → Option (List RangeParts)
source_ranges spec = ranges_of (items_in (codes "loadBalancerSourceRanges") spec)

-- a number unless it is 0
abbrev pub not_zero : ℕ → Option ℕ
not_zero zero = None
not_zero (suc n) = Some (suc n)

-- a target by its name, unless it is empty
abbrev pub named_target : ℕ → List ℕ → TargetPort
named_target port [] = Number port
named_target port (b ∷ bs) = Named (b ∷ bs)

-- a target by its number, unless it is 0
abbrev pub numbered_target : ℕ → Option ℕ → TargetPort
numbered_target port n = Number (unwrap_or (option_and_then not_zero n) port)

-- the target of a port, which is the port's own number where none is given
abbrev pub target_of : ℕ → Option Place → TargetPort
target_of port None = Number port
target_of port (Some p) = target_at port p (text_of p)
  where
    target_at : ℕ → Place → Option (List ℕ) → TargetPort
    target_at port p None = numbered_target port (whole_of p)
    target_at port p (Some text) = named_target port text

-- one port
abbrev pub service_port : Place → ServicePort
service_port p = record {
  name = port_name_in p;
  proto = proto_in p;
  port = unwrap_or (whole_in (codes "port") p) 0;
  target = target_of (unwrap_or (whole_in (codes "port") p) 0) (member_at p (codes "targetPort"));
  node_port = option_and_then not_zero (whole_in (codes "nodePort") p);
}

-- the timeout of affinity in seconds, which is three hours where none is given
abbrev pub affinity_timeout : Place → ℕ
affinity_timeout spec =
    unwrap_or (whole_in (codes "timeoutSeconds") (inner (codes "clientIP") (inner (codes "sessionAffinityConfig") spec))) 10800

-- the timeout where affinity is on
abbrev pub affinity_of : Bool → ℕ → Option ℕ
affinity_of false seconds = None
affinity_of true seconds = Some seconds

-- an address that a load balancer gave, unless it passes the packets on itself
abbrev pub ingress_address : Place → Option AddressParts
ingress_address p = cond (is_text (codes "Proxy") (text_in (codes "ipMode") p)) None (address_in (codes "ip") p)

-- the addresses of both families that a load balancer gave
abbrev pub balancer_addresses : Place → List AddressParts
balancer_addresses p =
    filter_map ingress_address (items_in (codes "ingress") (inner (codes "loadBalancer") (inner (codes "status") p)))

-- what a Service has of the family IPv6: of its cluster addresses the first, of its external addresses, those of the
-- load balancer and its source ranges all
abbrev pub six_of_parts : List AddressParts → List AddressParts → List AddressParts → Option (List RangeParts) → Six
six_of_parts clusters external balancer ranges = record {
  cluster = first_address V6 clusters;
  external = addresses_of V6 external;
  balancer = addresses_of V6 balancer;
  ranges = ranges_in V6 (unwrap_or ranges []);
}

-- the families that a Service lists
abbrev pub listed_families : Place → List Family
listed_families spec = filter_map family_at (items_in (codes "ipFamilies") spec)

-- the ports
abbrev pub service_ports : Place → List ServicePort
service_ports p = map service_port (items_in (codes "ports") (inner (codes "spec") p))

-- the Service, if its ports differ
abbrev pub service_from : (p : Place) → distinct_ports (service_ports p) ≡ true → Service
service_from p differ =
    let spec = inner (codes "spec") p in record {
      key = key_in p;
      kind = chosen service_kinds ClusterIp (text_in (codes "type") spec);
      cluster = cluster_of (written_clusters spec);
      families = families_of (listed_families spec) (cluster_addresses (written_clusters spec));
      ports = service_ports p;
      selector = pairs_in (codes "selector") spec;
      external = addresses_of V4 (external_addresses spec);
      affinity = affinity_of (chosen affinities false (text_in (codes "sessionAffinity") spec)) (affinity_timeout spec);
      internal = chosen policies Cluster (text_in (codes "internalTrafficPolicy") spec);
      outer = chosen policies Cluster (text_in (codes "externalTrafficPolicy") spec);
      publish_not_ready = unwrap_or (flag_in (codes "publishNotReadyAddresses") spec) false;
      ranges = option_map (ranges_in V4) (source_ranges spec);
      same_zone = is_text (codes "PreferClose") (text_in (codes "trafficDistribution") spec);
      health = option_and_then not_zero (whole_in (codes "healthCheckNodePort") spec);
      balancer = addresses_of V4 (balancer_addresses p);
      six =
          six_of_parts (cluster_addresses (written_clusters spec)) (external_addresses spec) (balancer_addresses p)
          (source_ranges spec);
      distinct = differ;
    }

-- The Service where no row is at fault. The rows see to it that the ports differ.
abbrev pub service_unless : Option BadField → (p : Place) → (b : Bool) → distinct_ports (service_ports p) ≡ b → Result Service BadField
service_unless (Some fault) p b is = Err fault
service_unless None p true is = Ok (service_from p is)
service_unless None p false is = Err (fault_at DuplicatePort p.path)

-- the Service that stands at a place, or the first fault of its rows
abbrev pub read_service : Place → Result Service BadField
read_service p = service_unless (rows_fault service_rows p) p (distinct_ports (service_ports p)) refl
