-- The objects and events that are read have their numbers within their bounds.
use Rattle.std.proofs.Common.{◌≡◌, ℕ, zero, suc, ◌&&◌, Bool, true, false, cond, nat_le, nat_lt, List, [], ◌∷◌, map, Option, Some, None, option_and_then, option_map, unwrap_or, Result, Ok, Err, bytes_eq, codes, filter_map, flat_map, refl, ap, subst, arith, inl, inr}
use Rattle.std.specs.List.{list_all}
use Rattle.std.specs.Map.{lookup}
use Rattle.std.proofs.lemmas.Bool.{and_from, and_parts}
use Rattle.std.proofs.lemmas.Bool.Decides.{nat_tests}
use Rattle.serde_json.specs.Data.{Data, null, boolean, number, string, array, object}
use Rattle.serde_json.specs.Find.{as_object}
use Rattle.kp_lemmas.proofs.Members.{none_in, in_cases, all_from, all_map, all_flat_map, from_all, from_filter, from_filter_map}
use Rattle.kp_json.specs.Places.{Place, elements_at, member_at, needed_at}
use Rattle.kp_json.specs.declared.fault.BadField.{BadField}
use Rattle.kp_base.specs.Net.{AddressParts, RangeParts, same_family}
use Rattle.kp_base.specs.Six.{any_address_of}
use Rattle.kp_base.specs.declared.address.Family.{Family}
use Rattle.kp_base.specs.declared.address.Family.TheVariants.{V4, V6}
use Rattle.kp_types.specs.Ports.{distinct_ports}
use Rattle.kp_types.specs.declared.event.Event.{Event}
use Rattle.kp_types.specs.declared.event.Event.TheVariants.{Apply, Delete}
use Rattle.kp_types.specs.declared.event.Kind.{Kind}
use Rattle.kp_types.specs.declared.event.Kind.TheVariants as kind
use Rattle.kp_types.specs.declared.event.Object.{Object}
use Rattle.kp_types.specs.declared.event.Object.TheVariants as obj
use Rattle.kp_types.specs.declared.pod.Node.{Node}
use Rattle.kp_types.specs.declared.pod.Pod.{Pod}
use Rattle.kp_types.specs.declared.service.ClusterAddress.TheVariants.{Headless}
use Rattle.kp_types.specs.declared.service.Service.{Service}
use Rattle.kp_types.specs.declared.slice.AddressType.{AddressType}
use Rattle.kp_types.specs.declared.slice.AddressType.TheVariants.{Ipv4, Ipv6, Fqdn}
use Rattle.kp_types.specs.declared.slice.Slice.{Slice}
use Rattle.kp_restore_defs.specs.RuleText.{is_port_number}
use Rattle.kp_row_defs.specs.Fields.{address_at, address_in, inner, is_text, items_in, text_in, whole_in, whole_of}
use Rattle.kp_row_defs.specs.Rows.{each, field, form_fault, needed, optional, row_fault, rows_fault, unless_fault, whole, whole_or_text}
use Rattle.kp_event_defs.specs.EventText.{Action, Refused, acted, apply_at, apply_each, applies, delete_at, deleted_key, deleted_row, deletes, kind_text, kinded, list_events, object_as, object_at, object_events, of_field, or_no_event, passes, single, watched, actions, ◌>>=◌}
use Rattle.kp_event_defs.specs.FamilyParts.{addresses_of, first_address, ranges_in}
use Rattle.kp_event_defs.specs.PodText.{addresses_or, container_port, container_port_rows, container_ports, container_rows, pod_addresses, pod_from, pod_rows, pod_spec_row, pod_spec_rows, read_pod}
use Rattle.kp_event_defs.specs.ServiceText.{affinity_of, affinity_row, affinity_timeout, at_address, balancer_addresses, client_rows, cluster_addresses, external_addresses, ingress_address, is_headless, listed_or, not_zero, ranges_of, read_service, service_from, service_port, service_port_rows, service_ports, service_rows, service_spec_rows, service_unless, source_ranges, target_of, timeout_rows, written_clusters}
use Rattle.kp_event_defs.specs.ServiceText as service
use Rattle.kp_event_defs.specs.SliceText as slice
use Rattle.kp_event_defs.specs.SliceText.{address_of_type, address_type_in, endpoint_from, first_of_type, read_slice, slice_from, slice_port, slice_port_rows, slice_rows}
use Rattle.kp_json.specs.Places as places
use Rattle.kp_text_laws.specs.Bounds.{AreBoundedEvents, IsBoundedEvent, IsBoundedObject, IsBoundedPod, IsBoundedService, IsBoundedSlice, is_bounded_address, is_bounded_cluster_address, is_bounded_container_port, is_bounded_entry, is_bounded_port, is_bounded_range, is_bounded_slice_port, is_bounded_target, is_timeout, passes_if_some}
use Rattle.kp_text_laws.specs.BoundLaws.{ReadIsBounded}
use Rattle.kp_text_laws.proofs.PortBounds.{found_passes, some_passes}
use Rattle.kp_text_laws.proofs.ReadAddresses.{member_address, place_address, place_addresses, place_ranges, some_from, text_address}
use Rattle.kp_text_laws.proofs.ReadRows.{each_fine, each_port_fine, either_fine, inside_fine, limited_fine, needed_fine, number_fine, optional_fine, port_from, row_fine}

-- what holds of a value that was read holds of what the reading is said to give
pub by_ok : {A E : Type 0} {x y : A} (P : A → Type 0) → ◌≡◌ {A = Result A E} (Ok x) (Ok y) → P x
    → P y
by_ok {x = x} {y = y} P e h = let same : x ≡ y = cc in subst P same h

-- a number that a row bounds
abbrev IsWithin : ℕ → ℕ → Option ℕ → Type 0
IsWithin least most o = (n : ℕ) → o ≡ Some n → (nat_le least n && nat_le n most) ≡ true

-- ---- Services

port_up_to : (n : ℕ) → nat_le (suc n) 65535 ≡ true → is_port_number (suc n) ≡ true
port_up_to n h = grind (arith, nat_tests, h)

not_zero_fits : (o : Option ℕ) → IsWithin 0 65535 o
    → passes_if_some is_port_number (option_and_then not_zero o) ≡ true
not_zero_fits None h = refl
not_zero_fits (Some zero) h = refl
not_zero_fits (Some (suc n)) h =
    port_up_to n (and_parts (nat_le 0 (suc n)) (nat_le (suc n) 65535) (h (suc n) refl)).1

numbered_by : (port : ℕ) (o : Option ℕ) → is_port_number port ≡ true
    → passes_if_some is_port_number o ≡ true → is_port_number (unwrap_or o port) ≡ true
numbered_by port None h k = h
numbered_by port (Some n) h k = k

target_value : (port : ℕ) (v : Data) (path : List ℕ) → is_port_number port ≡ true
    → form_fault (whole_or_text 0 65535) (record { value = v; path = path }) ≡ None
    → is_bounded_target (target_of port (Some (record { value = v; path = path }))) ≡ true
target_value port null path h k = h
target_value port (boolean b) path h k = h
target_value port (string []) path h k = h
target_value port (string (b ∷ bs)) path h k = refl
target_value port (array ds) path h k = h
target_value port (object ms) path h k = h
target_value port (number n) path h k =
    let p : Place = record { value = number n; path = path } in
    numbered_by port (option_and_then not_zero (whole_of p)) h
    (not_zero_fits _ (λ m is. number_fine p 0 65535 m k is))

target_fits : (port : ℕ) (m : Option Place) → is_port_number port ≡ true
    → ((q : Place) → m ≡ Some q → form_fault (whole_or_text 0 65535) q ≡ None)
    → is_bounded_target (target_of port m) ≡ true
target_fits port None h k = h
target_fits port (Some q) h k = target_value port q.value q.path h (k q refl)

port_fits : (q : Place) → rows_fault service_port_rows q ≡ None
    → is_bounded_port (service_port q) ≡ true
port_fits q h =
    let numbered = row_fine 2 service_port_rows q
    (field (codes "port") needed (whole 1 65535)) refl h in
    let targeted = row_fine 3 service_port_rows q
    (field (codes "targetPort") optional (whole_or_text 0 65535)) refl h in
    let at_node = row_fine 4 service_port_rows q
    (field (codes "nodePort") optional (whole 0 65535)) refl h in
    let n : ℕ = unwrap_or (whole_in (codes "port") q) 0 in
    let is_port : is_port_number n ≡ true =
    port_from n (needed_fine (codes "port") 1 65535 q numbered) in
    and_from _ _ is_port (and_from _ _ (target_fits n (member_at q (codes "targetPort")) is_port
    (λ t is. either_fine (codes "targetPort") 0 65535 q t targeted is))
    (not_zero_fits (whole_in (codes "nodePort") q)
    (λ m is. optional_fine (codes "nodePort") 0 65535 m q at_node is)))

seconds_fit : (o : Option ℕ) → IsWithin 1 86400 o → is_timeout (unwrap_or o 10800) ≡ true
seconds_fit None h = refl
seconds_fit (Some n) h = few n (and_parts (nat_le 1 n) (nat_le n 86400) (h n refl)).1
  where
    few : (n : ℕ) → nat_le n 86400 ≡ true → nat_lt n 4294967296 ≡ true
    few n h = grind (arith, nat_tests, h)

timeout_fits : (spec : Place)
    → row_fault affinity_row spec ≡ None → is_timeout (affinity_timeout spec) ≡ true
timeout_fits spec h =
    inside_fine (codes "sessionAffinityConfig") optional client_rows spec
    (λ q. is_timeout (unwrap_or (whole_in (codes "timeoutSeconds")
    (inner (codes "clientIP") q)) 10800) ≡ true) refl
    (λ q fine. inside_fine (codes "clientIP") optional timeout_rows q
    (λ r. is_timeout (unwrap_or (whole_in (codes "timeoutSeconds") r) 10800) ≡ true) refl
    (λ r of_r. seconds_fit (whole_in (codes "timeoutSeconds") r)
    (λ n is. optional_fine (codes "timeoutSeconds") 1 86400 n r
    (row_fine 0 timeout_rows r _ refl of_r) is)) (row_fine 0 client_rows q _ refl fine)) h

affinity_fits : (b : Bool) (n : ℕ) → is_timeout n ≡ true
    → passes_if_some is_timeout (affinity_of b n) ≡ true
affinity_fits true n h = h
affinity_fits false n h = refl

-- ---- What there is of a family

addresses_fit : (family : Family) (xs : List AddressParts) → list_all is_bounded_address xs ≡ true
    → list_all is_bounded_address (addresses_of family xs) ≡ true
addresses_fit family xs h =
    all_from _ _ (λ x c. from_all is_bounded_address xs h x
    (from_filter (λ (a : AddressParts). same_family a.family family) x xs c).0)

in_family_fit : (family : Family) (rs : List RangeParts) → list_all is_bounded_range rs ≡ true
    → list_all is_bounded_range (ranges_in family rs) ≡ true
in_family_fit family rs h =
    all_from _ _ (λ r c. from_all is_bounded_range rs h r
    (from_filter (λ (q : RangeParts). same_family q.base.family family) r rs c).0)

-- ---- Cluster addresses

listed_fits : (cs : List (Option AddressParts)) (o : Option (Option AddressParts))
    → list_all (passes_if_some is_bounded_address) cs ≡ true
    → passes_if_some (passes_if_some is_bounded_address) o ≡ true
    → list_all (passes_if_some is_bounded_address) (listed_or cs o) ≡ true
listed_fits [] None h k = refl
listed_fits [] (Some c) h k = and_from _ _ k refl
listed_fits (c ∷ cs) o h k = h

single_fits : (o : Option (List ℕ))
    → passes_if_some (passes_if_some is_bounded_address) (option_map any_address_of o) ≡ true
single_fits None = refl
single_fits (Some text) = some_from _ (any_address_of text) (text_address text)

written_fit : (spec : Place)
    → list_all (passes_if_some is_bounded_address) (written_clusters spec) ≡ true
written_fit spec =
    let items : List Place = items_in (codes "clusterIPs") spec in
    listed_fits (map address_at items) _
    (all_map (passes_if_some is_bounded_address) address_at items
    (λ p c. some_from _ (address_at p) (place_address p)))
    (single_fits (text_in (codes "clusterIP") spec))

unless_headless : (b : Bool) (xs : List AddressParts) → list_all is_bounded_address xs ≡ true
    → list_all is_bounded_address (cond b [] xs) ≡ true
unless_headless true xs h = refl
unless_headless false xs h = h

clusters_fit : (written : List (Option AddressParts))
    → list_all (passes_if_some is_bounded_address) written ≡ true
    → list_all is_bounded_address (cluster_addresses written) ≡ true
clusters_fit written h =
    unless_headless (is_headless written) _ (all_from _ (filter_map (λ c. c) written) (λ x c.
    let (o, stands, is) = from_filter_map (λ (d : Option AddressParts). d) x written c in
    some_passes is_bounded_address o x (from_all _ written h o stands) is))

at_fits : (o : Option AddressParts) → passes_if_some is_bounded_address o ≡ true
    → is_bounded_cluster_address (at_address o) ≡ true
at_fits None h = refl
at_fits (Some x) h = h

cluster_by : (b : Bool) (o : Option AddressParts) → passes_if_some is_bounded_address o ≡ true
    → is_bounded_cluster_address (cond b Headless (at_address o)) ≡ true
cluster_by true o h = refl
cluster_by false o h = at_fits o h

first_fits : (family : Family) (xs : List AddressParts) → list_all is_bounded_address xs ≡ true
    → passes_if_some is_bounded_address (first_address family xs) ≡ true
first_fits family xs h = found_passes is_bounded_address _ xs h

-- ---- Ranges and addresses of load balancers

ranges_fit : (items : List Place)
    → passes_if_some (list_all is_bounded_range) (ranges_of items) ≡ true
ranges_fit [] = refl
ranges_fit (p ∷ ps) = place_ranges (p ∷ ps)

v4_ranges_fit : (o : Option (List RangeParts)) → passes_if_some (list_all is_bounded_range) o ≡ true
    → passes_if_some (list_all is_bounded_range) (option_map (ranges_in V4) o) ≡ true
v4_ranges_fit None h = refl
v4_ranges_fit (Some rs) h = in_family_fit V4 rs h

v6_ranges_fit : (o : Option (List RangeParts)) → passes_if_some (list_all is_bounded_range) o ≡ true
    → list_all is_bounded_range (ranges_in V6 (unwrap_or o [])) ≡ true
v6_ranges_fit None h = refl
v6_ranges_fit (Some rs) h = in_family_fit V6 rs h

ingress_by : (q : Place) (x : AddressParts) (b : Bool)
    → cond b None (address_in (codes "ip") q) ≡ Some x → is_bounded_address x ≡ true
ingress_by q x true h = absurd (cc)
ingress_by q x false h = member_address (codes "ip") q x h

ingress_fits : (items : List Place)
    → list_all is_bounded_address (filter_map ingress_address items) ≡ true
ingress_fits items =
    all_from _ (filter_map ingress_address items) (λ x c.
    let (q, stands, is) = from_filter_map ingress_address x items c in
    ingress_by q x (is_text (codes "Proxy") (text_in (codes "ipMode") q)) is)

service_fits : (p : Place) (differ : distinct_ports (service_ports p) ≡ true)
    → rows_fault service_rows p ≡ None → IsBoundedService (service_from p differ)
service_fits p differ h =
    let spec : Place = inner (codes "spec") p in
    let specified = row_fine 1 service_rows p _ refl h in
    let ports : list_all is_bounded_port (map service_port (items_in (codes "ports") spec)) ≡ true =
    inside_fine (codes "spec") needed service_spec_rows p
    (λ q. list_all is_bounded_port (map service_port (items_in (codes "ports") q)) ≡ true) refl
    (λ q fine. all_map is_bounded_port service_port (items_in (codes "ports") q) (λ r c.
    port_fits r (each_port_fine (codes "ports") service_port_rows q
    (row_fine 4 service_spec_rows q service.ports_row refl fine) r c))) specified in
    let timeout : is_timeout (affinity_timeout spec) ≡ true =
    inside_fine (codes "spec") needed service_spec_rows p
    (λ q. is_timeout (affinity_timeout q) ≡ true) refl
    (λ q fine. timeout_fits q (row_fine 8 service_spec_rows q affinity_row refl fine)) specified in
    let health : passes_if_some is_port_number
    (option_and_then not_zero (whole_in (codes "healthCheckNodePort") spec)) ≡ true =
    inside_fine (codes "spec") needed service_spec_rows p
    (λ q. passes_if_some is_port_number
    (option_and_then not_zero (whole_in (codes "healthCheckNodePort") q)) ≡ true) refl
    (λ q fine. not_zero_fits (whole_in (codes "healthCheckNodePort") q) (λ n is.
    optional_fine (codes "healthCheckNodePort") 0 65535 n q
    (row_fine 14 service_spec_rows q _ refl fine) is)) specified in
    let given : List AddressParts = cluster_addresses (written_clusters spec) in
    let clusters : list_all is_bounded_address given ≡ true =
    clusters_fit (written_clusters spec) (written_fit spec) in
    let external : list_all is_bounded_address (external_addresses spec) ≡ true =
    place_addresses (items_in (codes "externalIPs") spec) in
    let balancer : list_all is_bounded_address (balancer_addresses p) ≡ true = ingress_fits
    (items_in (codes "ingress") (inner (codes "loadBalancer") (inner (codes "status") p))) in
    let ranges : passes_if_some (list_all is_bounded_range) (source_ranges spec) ≡ true =
    ranges_fit (items_in (codes "loadBalancerSourceRanges") spec) in
    record {
      cluster = cluster_by (is_headless (written_clusters spec)) (first_address V4 given)
          (first_fits V4 given clusters);
      ports = ports;
      external = addresses_fit V4 (external_addresses spec) external;
      affinity = affinity_fits _ _ timeout;
      ranges = v4_ranges_fit (source_ranges spec) ranges;
      health = health;
      balancer = addresses_fit V4 (balancer_addresses p) balancer;
      six = record {
        cluster = first_fits V6 given clusters;
        external = addresses_fit V6 (external_addresses spec) external;
        balancer = addresses_fit V6 (balancer_addresses p) balancer;
        ranges = v6_ranges_fit (source_ranges spec) ranges;
      };
    }

service_by : (p : Place) (s : Service) (fault : Option BadField) (b : Bool)
    (is : distinct_ports (service_ports p) ≡ b) → rows_fault service_rows p ≡ fault
    → service_unless fault p b is ≡ Ok s → IsBoundedService s
service_by p s (Some fault) b is h e = absurd (cc)
service_by p s None true is h e = by_ok IsBoundedService e (service_fits p is h)
service_by p s None false is h e = absurd (cc)

service_read : (p : Place) (s : Service) → read_service p ≡ Ok s → IsBoundedService s
service_read p s e = service_by p s _ _ refl refl e

-- ---- EndpointSlices and Pods

pub read_by : {A : Type 0} (fault : Option BadField) (x y : A) → unless_fault fault x ≡ Ok y
    → (fault ≡ None) × (x ≡ y)
read_by (Some fault) x y e = absurd (cc)
read_by None x y e = let same : x ≡ y = cc in (refl, same)

slice_port_fits : (q : Place) → rows_fault slice_port_rows q ≡ None
    → is_bounded_slice_port (slice_port q) ≡ true
slice_port_fits q h =
    let numbered = row_fine 2 slice_port_rows q
    (field (codes "port") optional (whole 1 65535)) refl h in
    some_from _ (whole_in (codes "port") q) (λ n is.
    port_from n (optional_fine (codes "port") 1 65535 n q numbered is))

of_type_fits : (type : AddressType) (p : Place)
    → passes_if_some is_bounded_address (address_of_type type p) ≡ true
of_type_fits Ipv4 p = some_from _ (address_at p) (place_address p)
of_type_fits Ipv6 p = some_from _ (address_at p) (place_address p)
of_type_fits Fqdn p = refl

entry_fits : (type : AddressType) (items : List Place)
    → passes_if_some is_bounded_address (first_of_type type items) ≡ true
entry_fits type [] = refl
entry_fits type (p ∷ ps) = of_type_fits type p

slice_fits : (p : Place) → rows_fault (slice_rows (address_type_in p)) p ≡ None
    → IsBoundedSlice (slice_from p)
slice_fits p h =
    let ports = row_fine 3 (slice_rows (address_type_in p)) p slice.ports_row refl h in record {
      ports = all_map is_bounded_slice_port slice_port (items_in (codes "ports") p) (λ q c.
          slice_port_fits q (limited_fine 100 (codes "ports") slice_port_rows p ports q c));
      endpoints = all_map is_bounded_entry (endpoint_from (address_type_in p) _)
          (items_in (codes "endpoints") p)
          (λ q c. entry_fits (address_type_in p) (items_in (codes "addresses") q));
    }

slice_read : (p : Place) (s : Slice) → read_slice p ≡ Ok s → IsBoundedSlice s
slice_read p s e =
    let (fine, is) = read_by _ _ s e in
    subst IsBoundedSlice is (slice_fits p fine)

container_port_fits : (q : Place) → rows_fault container_port_rows q ≡ None
    → is_bounded_container_port (container_port q) ≡ true
container_port_fits q h =
    let numbered = row_fine 2 container_port_rows q
    (field (codes "containerPort") needed (whole 1 65535)) refl h in
    port_from (unwrap_or (whole_in (codes "containerPort") q) 0)
    (needed_fine (codes "containerPort") 1 65535 q numbered)

one_or_fit : (xs : List AddressParts) (o : Option AddressParts)
    → list_all is_bounded_address xs ≡ true → passes_if_some is_bounded_address o ≡ true
    → list_all is_bounded_address (addresses_or xs o) ≡ true
one_or_fit [] None h k = refl
one_or_fit [] (Some a) h k = and_from _ _ k refl
one_or_fit (x ∷ xs) o h k = h

pod_addresses_fit : (status : Place) → list_all is_bounded_address (pod_addresses status) ≡ true
pod_addresses_fit status =
    let items : List Place = items_in (codes "podIPs") status in
    let listed : List AddressParts = filter_map (address_in (codes "ip")) items in
    one_or_fit listed (address_in (codes "podIP") status) (all_from _ listed (λ x c.
    let (p, stands, is) = from_filter_map (address_in (codes "ip")) x items c in
    member_address (codes "ip") p x is))
    (some_from _ (address_in (codes "podIP") status) (member_address (codes "podIP") status))

pod_fits : (p : Place) → rows_fault pod_rows p ≡ None → IsBoundedPod (pod_from p)
pod_fits p h =
    let specified = row_fine 1 pod_rows p pod_spec_row refl h in
    let status : Place = inner (codes "status") p in record {
      ports = inside_fine (codes "spec") optional pod_spec_rows p
          (λ q. list_all is_bounded_container_port
          (flat_map container_ports (items_in (codes "containers") q)) ≡ true) refl
          (λ q fine. all_flat_map is_bounded_container_port container_ports
          (items_in (codes "containers") q) (λ r c.
          let of_container = each_fine (codes "containers") container_rows q
          (row_fine 1 pod_spec_rows q (each (codes "containers") container_rows) refl fine) r c in
          let of_ports = row_fine 0 container_rows r (each
          (codes "ports") container_port_rows) refl of_container in
          all_map is_bounded_container_port container_port (items_in (codes "ports") r) (λ s d.
          container_port_fits s (each_fine (codes "ports") container_port_rows r of_ports s d))))
          specified;
      address = first_fits V4 (pod_addresses status) (pod_addresses_fit status);
      address6 = first_fits V6 (pod_addresses status) (pod_addresses_fit status);
    }

pod_read : (p : Place) (q : Pod) → read_pod p ≡ Ok q → IsBoundedPod q
pod_read p q e =
    let (fine, is) = read_by _ _ q e in
    subst IsBoundedPod is (pod_fits p fine)

-- ---- Events

from_then : {A B : Type 0} (r : Result A Refused) (f : A → Result B Refused) (y : B)
    → (r >>= f) ≡ Ok y → (x : A) × (r ≡ Ok x) × (f x ≡ Ok y)
from_then (Err why) f y e = absurd (cc)
from_then (Ok x) f y e = (x, refl, e)

from_field : {A : Type 0} (r : Result A BadField) (x : A) → of_field r ≡ Ok x → r ≡ Ok x
from_field (Err fault) x e = absurd (cc)
from_field (Ok y) x e = let same : y ≡ x = cc in ap (λ z. Ok z) same

from_object : {A : Type 0} (of : A → Object) (P : A → Type 0) (r : Result A BadField) (o : Object)
    → ((x : A) → P x → IsBoundedObject (of x)) → ((x : A) → r ≡ Ok x → P x)
    → object_as of r ≡ Ok o → IsBoundedObject o
from_object of P (Err fault) o h k e = absurd (cc)
from_object of P (Ok x) o h k e = by_ok IsBoundedObject e (h x (k x refl))

object_read : (k : Kind) (p : Place) (o : Object) → object_at k p ≡ Ok o → IsBoundedObject o
object_read kind.Service p o e = from_object obj.Service _ _ o (λ x h. h) (service_read p) e
object_read kind.EndpointSlice p o e = from_object _ _ _ o (λ x h. h) (slice_read p) e
object_read kind.Pod p o e = from_object obj.Pod IsBoundedPod _ o (λ x h. h) (pod_read p) e
object_read kind.Node p o e =
    from_object obj.Node (λ (n : Node). Unit {0}) _ o (λ x h. tt) (λ x h. tt) e

apply_read : (p : Place) (e : Event) → apply_at p ≡ Ok e → IsBoundedEvent e
apply_read p e h =
    let (k, of_k, next) = from_then _ (λ k. of_field (object_at k p) >>= λ o. Ok (Apply o)) e h in
    let (o, of_o, made) = from_then _ (λ o. Ok (Apply o)) e next in
    by_ok IsBoundedEvent made (object_read k p o (from_field _ o of_o))

delete_read : (p : Place) (e : Event) → delete_at p ≡ Ok e → IsBoundedEvent e
delete_read p e h =
    let (k, of_k, next) = from_then _
    (λ k. of_field (unless_fault (row_fault (deleted_row k) p) (deleted_key k p))
    >>= λ key. Ok (Delete k key)) e h in
    let (key, of_key, made) = from_then
    (of_field (unless_fault (row_fault (deleted_row k) p) (deleted_key k p)))
    (λ key. Ok (Delete k key)) e next in
    by_ok IsBoundedEvent made tt

one_event : (e : Event) → IsBoundedEvent e → AreBoundedEvents (e ∷ [])
one_event e h f c =
    elim (in_cases f e [] c) [ inl is ↦ subst IsBoundedEvent is h | inr d ↦ absurd (none_in f d) ]

single_read : (r : Result Event Refused) (es : List Event)
    → ((e : Event) → r ≡ Ok e → IsBoundedEvent e) → (r >>= single) ≡ Ok es → AreBoundedEvents es
single_read (Err why) es h e = absurd (cc)
single_read (Ok x) es h e = by_ok AreBoundedEvents e (one_event x (h x refl))

no_events : AreBoundedEvents []
no_events e c = absurd (none_in e c)

acted_read : (p : Place) (a : Action) (es : List Event) → acted p a ≡ Ok es → AreBoundedEvents es
acted_read p applies es h = single_read _ es (apply_read p) h
acted_read p deletes es h = single_read _ es (delete_read p) h
acted_read p passes es h = by_ok AreBoundedEvents h no_events

each_read : (ps : List Place) (es : List Event) → apply_each ps ≡ Ok es → AreBoundedEvents es
each_read [] es h = by_ok AreBoundedEvents h no_events
each_read (p ∷ ps) es h =
    let (e, of_e, next) = from_then _ (λ e. apply_each ps >>= λ events. Ok (e ∷ events)) es h in
    let (rest, of_rest, made) = from_then _ (λ events. Ok (e ∷ events)) es next in
    by_ok AreBoundedEvents made (λ f c. elim (in_cases f e rest c) [
      | inl is ↦ subst IsBoundedEvent is (apply_read p e of_e)
      | inr d ↦ each_read ps rest of_rest f d
    ])

list_read : (p : Place) (es : List Event) → list_events p ≡ Ok es → AreBoundedEvents es
list_read p es h =
    let (items, of_items, next) = from_then (of_field (needed_at p (codes "items")))
    (λ items. of_field (elements_at items) >>= λ ps. apply_each ps) es h in
    let (ps, of_ps, made) = from_then (of_field (elements_at items))
    (λ ps. apply_each ps) es next in
    each_read ps es made

kinded_by : (p : Place) (es : List Event) (b : Bool)
    → cond b (list_events p) (apply_at p >>= single) ≡ Ok es → AreBoundedEvents es
kinded_by p es true h = list_read p es h
kinded_by p es false h = single_read _ es (apply_read p) h

kinded_read : (p : Place) (es : List Event) → kinded p ≡ Ok es → AreBoundedEvents es
kinded_read p es h =
    let (text, of_text, next) = from_then (kind_text p)
    (λ text. cond (bytes_eq text (codes "List")) (list_events p) (apply_at p >>= single)) es h in
    kinded_by p es (bytes_eq text (codes "List")) next

watched_read : (p q : Place) (es : List Event) → watched p q ≡ Ok es → AreBoundedEvents es
watched_read p q es h =
    let (text, of_text, next) = from_then (of_field (places.text_at p))
    (λ text. or_no_event (lookup (bytes_eq text) actions) >>= λ action. acted q action) es h in
    let (action, of_action, made) = from_then (or_no_event (lookup (bytes_eq text) actions))
    (λ action. acted q action) es next in
    acted_read q action es made

object_events_read : (p : Place) (a b : Option Place) (es : List Event)
    → object_events p a b ≡ Ok es → AreBoundedEvents es
object_events_read p (Some a) (Some b) es h = watched_read a b es h
object_events_read p (Some a) None es h = kinded_read p es h
object_events_read p None b es h = kinded_read p es h

pub read_is_bounded : ReadIsBounded
read_is_bounded p es h =
    let (ms, of_ms, next) = from_then (or_no_event (as_object p.value))
    (λ ms. object_events p (member_at p (codes "type")) (member_at p (codes "object"))) es h in
    object_events_read p (member_at p (codes "type")) (member_at p (codes "object")) es next
