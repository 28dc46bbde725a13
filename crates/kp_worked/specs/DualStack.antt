-- Worked examples of Services and pods of both families (Kubernetes documents, "IPv4/IPv6 dual-stack"). The Service
-- default/web has the cluster addresses 10.96.0.10 and fd00:10:96::a, and its pod a the addresses 10.244.1.2 and
-- fd00:10:244::2.
use Rattle.std.specs.Prelude.{◌≡◌, ℕ, ◌+◌, ◌*◌, ◌^◌, true, false, List, [], ◌∷◌, map, codes, Option, Some, None}
use Rattle.kp_base.specs.Net.{AddressParts, RangeParts, v6_address}
use Rattle.kp_base.specs.declared.address.Family.{Family}
use Rattle.kp_base.specs.declared.address.Family.TheVariants.{V4, V6}
use Rattle.kp_types.specs.declared.event.Event.{Event}
use Rattle.kp_types.specs.declared.event.Event.TheVariants.{Apply}
use Rattle.kp_types.specs.declared.event.Object.TheVariants as object
use Rattle.kp_types.specs.declared.pod.Pod.{Pod}
use Rattle.kp_types.specs.declared.service.Service.{Service}
use Rattle.kp_types.specs.declared.service.ServiceKind.TheVariants.{LoadBalancer}
use Rattle.kp_types.specs.declared.slice.AddressType.{AddressType}
use Rattle.kp_types.specs.declared.slice.AddressType.TheVariants.{Ipv4, Ipv6}
use Rattle.kp_types.specs.declared.slice.Slice.{Slice}
use Rattle.kp_types.specs.declared.slice.SliceEndpoint.{SliceEndpoint}
use Rattle.kp_object_defs.specs.Desired.{desired_among}
use Rattle.kp_object_defs.specs.Entries.{slice_candidates}
use Rattle.kp_object_defs.specs.Packing.{packed_slices}
use Rattle.kp_object_defs.specs.PortInfo.{infos_from}
use Rattle.kp_worked.specs.Packing.{http, kp1, kp2, wanted}
use Rattle.kp_worked.specs.Setting.{ipv4, default_key, first, no_six, ready_at, slice_of, web, web_port, with_endpoints}
use Rattle.kp_worked.specs.SlicesNow.{seen_after}
use Rattle.kp_worked.specs.Wanted.{selecting, pod_a, nodes, entry}

-- an address of fd00:10:96::/112
abbrev pub service_six : ℕ → AddressParts
service_six n = v6_address (253 * 2 ^ 120 + 16 * 2 ^ 96 + 150 * 2 ^ 80 + n)

-- an address of fd00:10:244::/112
abbrev pub pod_six : ℕ → AddressParts
pod_six n = v6_address (253 * 2 ^ 120 + 16 * 2 ^ 96 + 580 * 2 ^ 80 + n)

-- the Service
abbrev pub both : Service
both = record selecting { families = V6 ∷ V4 ∷ []; six = record no_six { cluster = Some (service_six 10) } }

-- its pod
abbrev pub pod_of_both : Pod
pod_of_both = record pod_a { address6 = Some (pod_six 2) }

-- the entries that a Service wants of a pod in a family
abbrev pub entries : Family → Service → Pod → List SliceEndpoint
entries family s pod = map (λ w. w.entry) (desired_among family s (pod ∷ []) nodes)

-- the pod gives an endpoint of IPv6
abbrev pub InSix : Type 0
InSix = entries V6 both pod_of_both ≡ entry (codes "a") (pod_six 2) true true false ∷ []

-- and one of IPv4
abbrev pub InFour : Type 0
InFour = entries V4 both pod_of_both ≡ entry (codes "a") (ipv4 10 244 1 2) true true false ∷ []

-- none of IPv6 for a Service of IPv4
abbrev pub OneFamily : Type 0
OneFamily = entries V6 selecting pod_of_both ≡ []

-- none of IPv4 for a Service of IPv6
abbrev pub SixAlone : Type 0
SixAlone = entries V4 (record both { families = V6 ∷ [] }) pod_of_both ≡ []

-- none of IPv6 where the pod has no such address
abbrev pub WithoutAddress : Type 0
WithoutAddress = entries V6 both pod_a ≡ []

-- ---- Slices

-- an IPv6 slice with an endpoint of each family
abbrev pub mixed : Slice
mixed = record (slice_of (codes "web") (ready_at (pod_six 2) (codes "n1") ∷ first ∷ [])) { family = Ipv6 }

-- an address of the other family makes no candidate in the slice's family
abbrev pub OtherAddress : Type 0
OtherAddress =
    map (λ c. c.endpoint) (slice_candidates V6 (codes "n1") web_port mixed)
    ≡ record { address = pod_six 2; port = 8080 } ∷ []

-- nor in its own
abbrev pub OtherSlice : Type 0
OtherSlice = slice_candidates V4 (codes "n1") web_port mixed ≡ []

-- a new slice has the address type of its family
abbrev pub NewSlice : Type 0
NewSlice =
    packed_slices V6 web.key [] (wanted (codes "a")) 4 (kp1 ∷ [])
    ≡ record {
      slices =
          record {
            key = default_key kp2;
            service = Some (codes "web");
            managed = true;
            family = Ipv6;
            ports = http;
            endpoints = map (λ w. w.entry) (wanted (codes "a"));
          }
          ∷ [];
      created = kp2 ∷ [];
      updated = [];
      deleted = [];
    }

-- a slice by its name and address type
abbrev pub name_and_type : Slice → List ℕ × AddressType
name_and_type s = (s.key.name, s.family)

-- the Service and its pod
abbrev pub applied : List Event
applied = Apply (object.Service both) ∷ Apply (object.Pod pod_of_both) ∷ []

-- a sync makes a slice of each family, IPv4 first, and names count over both
abbrev pub SlicesOfBoth : Type 0
SlicesOfBoth = seen_after name_and_type applied (2 ∷ []) ≡ (kp1, Ipv4) ∷ (kp2, Ipv6) ∷ []

-- the Service loses IPv6
abbrev pub four_alone : List Event
four_alone =
    Apply (object.Service both) ∷ Apply (object.Pod pod_of_both)
    ∷ Apply (object.Service (record both { families = V4 ∷ [] })) ∷ []

-- so does it lose its slices of that family
abbrev pub FamilyGoes : Type 0
FamilyGoes = seen_after name_and_type four_alone (2 ∷ 1 ∷ []) ≡ (kp1, Ipv4) ∷ []

-- ---- What is known of a port

-- a range of IPv6
abbrev pub range_six : RangeParts
range_six = record { base = v6_address (253 * 2 ^ 120); bits = 8 }

-- the Service with a load balancer of both families, whose sources are ranges of IPv6
abbrev pub balanced_both : Service
balanced_both = record both {
  kind = LoadBalancer;
  external = ipv4 203 0 113 9 ∷ [];
  ranges = Some [];
  six = record {
    cluster = Some (service_six 10);
    external = service_six 9 ∷ service_six 9 ∷ [];
    balancer = service_six 8 ∷ [];
    ranges = range_six ∷ [];
  };
}

-- the destinations of a port in a family: cluster, external and load-balancer addresses, and source ranges
pub record Seen : Type 0 where
  pub address : AddressParts
  pub external : List AddressParts
  pub balancer : List AddressParts
  pub ranges : Option (List RangeParts)

-- the destinations of a Service's ports
abbrev pub seen : Family → Service → List Seen
seen family s =
    map (λ i. record { address = i.address; external = i.external; balancer = i.balancer; ranges = i.ranges })
    (infos_from family (codes "n1") None (with_endpoints s [] ∷ []))

-- in IPv6 those of IPv6, each once
abbrev pub KnownInSix : Type 0
KnownInSix =
    seen V6 balanced_both
    ≡ record {
      address = service_six 10;
      external = service_six 9 ∷ [];
      balancer = service_six 8 ∷ [];
      ranges = Some (range_six ∷ []);
    }
    ∷ []

-- in IPv4 those of IPv4; no source range of its family admits nobody
abbrev pub KnownInFour : Type 0
KnownInFour =
    seen V4 balanced_both
    ≡ record {
      address = ipv4 10 96 0 10;
      external = ipv4 203 0 113 9 ∷ [];
      balancer = [];
      ranges = Some [];
    }
    ∷ []

-- a Service without an IPv6 cluster address has no port in IPv6
abbrev pub NoPortInSix : Type 0
NoPortInSix = seen V6 web ≡ []
