-- What is read of a Service's specification.
use Rattle.std.specs.Prelude.{◌≡◌, true, false, List, codes, map, Option, option_map, option_and_then, unwrap_or}
use Rattle.kp_base.specs.Net.{AddressParts}
use Rattle.kp_base.specs.Six.{any_address_of}
use Rattle.kp_base.specs.declared.address.Family.TheVariants.{V4}
use Rattle.kp_base.specs.declared.key.ObjectKey.{ObjectKey}
use Rattle.kp_json.specs.Places.{Place}
use Rattle.kp_row_defs.specs.Fields.{text_in, flag_in, whole_in, items_in, is_text, chosen, address_at, pairs_in}
use Rattle.kp_event_defs.specs.ServiceText.{service_kinds, policies, affinities, listed_or, cluster_addresses, cluster_of, families_of, listed_families, external_addresses, source_ranges, six_of_parts, not_zero, service_port, affinity_of, affinity_timeout}
use Rattle.kp_event_defs.specs.FamilyParts.{addresses_of, ranges_in}
use Rattle.kp_types.specs.Ports.{distinct_ports}
use Rattle.kp_types.specs.declared.service.Service.{Service}
use Rattle.kp_types.specs.declared.service.ServiceKind.TheVariants.{ClusterIp}
use Rattle.kp_types.specs.declared.service.Policy.TheVariants.{Cluster}
use Rattle.kp_objects.specs.declared.service.spec.ServiceSpec.{ServiceSpec}

-- the specification
abbrev pub spec_from : Place → ServiceSpec
spec_from p = record {
  kind = chosen service_kinds ClusterIp (text_in (codes "type") p);
  cluster = option_map any_address_of (text_in (codes "clusterIP") p);
  clusters = map address_at (items_in (codes "clusterIPs") p);
  families = listed_families p;
  ports = map service_port (items_in (codes "ports") p);
  selector = pairs_in (codes "selector") p;
  external = external_addresses p;
  affinity = affinity_of (chosen affinities false (text_in (codes "sessionAffinity") p)) (affinity_timeout p);
  internal = chosen policies Cluster (text_in (codes "internalTrafficPolicy") p);
  outer = chosen policies Cluster (text_in (codes "externalTrafficPolicy") p);
  publish_not_ready = unwrap_or (flag_in (codes "publishNotReadyAddresses") p) false;
  ranges = source_ranges p;
  same_zone = is_text (codes "PreferClose") (text_in (codes "trafficDistribution") p);
  health = option_and_then not_zero (whole_in (codes "healthCheckNodePort") p);
}

-- what is read one after another: the key, the specification, and the addresses that a load balancer gave
abbrev pub Parts : Type 0
Parts = ObjectKey × ServiceSpec × List AddressParts

-- the cluster addresses that a specification writes
abbrev pub clusters_of : ServiceSpec → List (Option AddressParts)
clusters_of spec = listed_or spec.clusters spec.cluster

-- the Service that is made of them
abbrev pub made_of : (parts : Parts) → distinct_ports parts.1.ports ≡ true → Service
made_of (key, spec, balancer) differ =
    let addresses = cluster_addresses (clusters_of spec) in record {
      key = key;
      kind = spec.kind;
      cluster = cluster_of (clusters_of spec);
      families = families_of spec.families addresses;
      ports = spec.ports;
      selector = spec.selector;
      external = addresses_of V4 spec.external;
      affinity = spec.affinity;
      internal = spec.internal;
      outer = spec.outer;
      publish_not_ready = spec.publish_not_ready;
      ranges = option_map (ranges_in V4) spec.ranges;
      same_zone = spec.same_zone;
      health = spec.health;
      balancer = addresses_of V4 balancer;
      six = six_of_parts addresses spec.external balancer spec.ranges;
      distinct = differ;
    }
