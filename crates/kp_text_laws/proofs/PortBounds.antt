-- What is known of the ports of objects is within its bounds where the objects' numbers are.
use Rattle.std.proofs.Common.{◌≡◌, ℕ, ◌^◌, ◌&&◌, ◌||◌, inl, inr, Bool, true, false, not, cond, nat_lt, List, [], ◌∷◌, ◌++◌, map, reverse, Contains, Option, Some, None, option_map, option_and_then, filter, filter_map, flat_map, refl, sym, ap, subst, ◌∙◌}
use Rattle.std.specs.List as list
use Rattle.std.specs.List.{list_all, AllByRecursion, slice_get}
use Rattle.std.specs.FinMap as finite
use Rattle.std.specs.Str.{bytes_eq}
use Rattle.std.proofs.lemmas.Bool.{and_from, and_parts}
use Rattle.std.proofs.lemmas.List.Elements.{Contains-append_cases}
use Rattle.std.proofs.lemmas.Option.{cond_some, same_Some}
use Rattle.kp_lemmas.proofs.Entries.{entries_found}
use Rattle.kp_lemmas.proofs.Members.{none_in, in_cases, all_from, from_all, from_filter, from_filter_map, from_flat_map, from_map, from_reverse}
use Rattle.kp_lemmas.proofs.Options.{from_option_map, from_and_then}
use Rattle.kp_base.specs.Keys.{key_cmp, endpoint_cmp, port_key_cmp}
use Rattle.kp_base.specs.Net.{AddressParts, RangeParts, same_address, same_family, width}
use Rattle.kp_base.specs.declared.address.Family.{Family}
use Rattle.kp_base.specs.declared.address.Family.TheVariants.{V4, V6}
use Rattle.kp_base.specs.declared.key.Endpoint.{Endpoint}
use Rattle.kp_base.specs.declared.key.ObjectKey.{ObjectKey}
use Rattle.kp_base.specs.declared.key.PortKey.{PortKey}
use Rattle.kp_base.specs.declared.port.Proto.{Proto}
use Rattle.kp_base.proofs.KeyOrder.{key_total, endpoint_exact, port_key_exact}
use Rattle.kp_base.proofs.SameParts.{same_family_exact}
use Rattle.kp_types.specs.Ports.{same_proto}
use Rattle.kp_types.specs.Setting.{FamilyConfig}
use Rattle.kp_types.specs.declared.info.ServiceSources.{ServiceSources}
use Rattle.kp_types.specs.declared.lists.Candidate.{Candidate}
use Rattle.kp_types.specs.declared.pod.ContainerPort.{ContainerPort}
use Rattle.kp_types.specs.declared.pod.Pod.{Pod}
use Rattle.kp_types.specs.declared.service.ClusterAddress.{ClusterAddress}
use Rattle.kp_types.specs.declared.service.ClusterAddress.TheVariants.{Absent, Headless, At}
use Rattle.kp_types.specs.declared.service.Service.{Service}
use Rattle.kp_types.specs.declared.service.ServicePort.{ServicePort}
use Rattle.kp_types.specs.declared.service.TargetPort.{TargetPort}
use Rattle.kp_types.specs.declared.service.TargetPort.TheVariants.{Number, Named}
use Rattle.kp_types.specs.declared.slice.Slice.{Slice}
use Rattle.kp_types.specs.declared.slice.SliceEndpoint.{SliceEndpoint}
use Rattle.kp_types.specs.declared.slice.SlicePort.{SlicePort}
use Rattle.kp_types.specs.declared.slice.Wanted.{Wanted}
use Rattle.kp_object_defs.specs.Desired.{is_reconciled, address_in, desired_endpoints_of, entry_of, has_family, pod_address, resolved_port, resolved_ports, target_number, with_ports}
use Rattle.kp_object_defs.specs.Entries.{candidate_at, candidate_of, candidates_from, entries_from, number_at, number_if, slice_candidates, slices_of, sources_of, unmanaged, wanted_candidate}
use Rattle.kp_object_defs.specs.Objects.{Objects, zone_of}
use Rattle.kp_object_defs.specs.Order.{in_order}
use Rattle.kp_object_defs.specs.PortInfo.{PortInfo, address_at, addresses_in, balancer_of, cluster_address_in, cluster_of_family, external_of, has_balancer, info_from, info_of, is_reachable_in, name_of_port, port_key_of, ports_of, ranges_in, ranges_of, restriction_in, same_range, service_ports}
use Rattle.kp_object_laws.specs.ListLaws.{AreAmong, is_usable, local}
use Rattle.kp_object_laws.proofs.FirstPlaces.{from_places}
use Rattle.kp_object_laws.proofs.Lists.{among_usable}
use Rattle.kp_object_laws.proofs.PortByKey.{sources_service}
use Rattle.kp_restore_defs.specs.RuleText.{is_canonical_address, is_canonical_range, is_canonical_endpoint, is_port_number}
use Rattle.kp_table_laws.proofs.Entries.{from_in_order}
use Rattle.kp_text_laws.specs.Bounds.{passes_if_some, is_bounded_address, is_bounded_range, is_bounded_cluster_address, is_bounded_container_port, is_bounded_entry, is_bounded_port, is_bounded_slice_port, is_bounded_target, HoldsOfEach, AreBounded, IsBoundedInfo, IsBoundedPod, IsBoundedService, IsBoundedSlice}
use Rattle.kp_text_laws.specs.BoundLaws.{PortsAreBounded}

-- ---- Lists and maps

of_each : {A : Type 0} (P : A → Type 0) (xs : List A) → AllByRecursion P xs → (x : A)
    → Contains xs x → P x
of_each P [] all x c = absurd (none_in x c)
of_each P (y ∷ ys) all x c =
    elim (in_cases x y ys c) [
      | inl e ↦ subst P e all.0
      | inr d ↦ of_each P ys all.1 x d
    ]

-- what holds of each object of a map holds of each value
of_value : {X : Type 0} (P : X → Type 0) (m : finite.FinMap key_cmp X) → HoldsOfEach P m → (x : X)
    → Contains (finite.values m) x → P x
of_value {X} P m h x c =
    let (e, stands, is) = from_map (λ (f : ObjectKey × X). f.1) x _ c in
    let found : finite.get m e.0 ≡ Some e.1 =
    of_each (λ (f : ObjectKey × X). finite.get m f.0 ≡ Some f.1) _
    (entries_found key_total m) e stands in
    subst P is (h e.0 e.1 found)

module _ {A : Type 0} (test : A → Bool) where
  -- the test of what is found at the front
  first_passes : (xs : List A) → list_all test xs ≡ true
      → passes_if_some test (slice_get xs 0) ≡ true
  first_passes [] h = refl
  first_passes (x ∷ xs) h = (and_parts (test x) (list_all test xs) h).0

  -- of what is there
  pub some_passes : (o : Option A) (x : A) → passes_if_some test o ≡ true → o ≡ Some x
      → test x ≡ true
  some_passes None x h e = absurd (cc)
  some_passes (Some y) x h e = ap test (sym (same_Some y x e)) ∙ h

  -- of a value under a condition
  passes_cond : (b : Bool) (o : Option A) → passes_if_some test o ≡ true
      → passes_if_some test (cond b o None) ≡ true
  passes_cond true o h = h
  passes_cond false o h = refl

  all_cond : (b : Bool) (xs : List A) → list_all test xs ≡ true
      → list_all test (cond b xs []) ≡ true
  all_cond true xs h = h
  all_cond false xs h = refl

module _ {A : Type 0} (test choice : A → Bool) where
  found_by : (x : A) (xs : List A) → test x ≡ true
      → passes_if_some test (list.find choice xs) ≡ true → (b : Bool)
      → passes_if_some test (cond b (Some x) (list.find choice xs)) ≡ true
  found_by x xs h later true = h
  found_by x xs h later false = later

  -- the test of the first that passes another one
  pub found_passes : (xs : List A) → list_all test xs ≡ true
      → passes_if_some test (list.find choice xs) ≡ true
  found_passes [] h = refl
  found_passes (x ∷ xs) h =
      let parts = and_parts (test x) (list_all test xs) h in
      found_by x xs parts.0 (found_passes xs parts.1) (choice x)

-- what stands under a condition stands
from_cond : {A : Type 0} (b : Bool) (xs : List A) (x : A) → Contains (cond b xs []) x
    → Contains xs x
from_cond true xs x c = c
from_cond false xs x c = absurd (none_in x c)

-- ---- Addresses of a family

module _ (family : Family) where
  of_family : (a : AddressParts) → is_bounded_address a ≡ true → same_family a.family family ≡ true
      → is_canonical_address family a ≡ true
  of_family a h same =
      and_from _ _ same
      (subst (λ f. nat_lt a.number (2 ^ width f) ≡ true) (same_family_exact a.family family same)
      (and_parts _ _ h).1)

  range_of_family : (r : RangeParts) → is_bounded_range r ≡ true
      → same_family r.base.family family ≡ true → is_canonical_range family r ≡ true
  range_of_family r h same =
      subst (λ f. is_canonical_range f r ≡ true) (same_family_exact r.base.family family same) h

  -- an address that is taken for the family
  found_in : (a b : AddressParts) → is_bounded_address a ≡ true → address_in family a ≡ Some b
      → is_canonical_address family b ≡ true
  found_in a b h e =
      let (same, is) = cond_some _ a b e in
      subst (λ c. is_canonical_address family c ≡ true) is (of_family a h same)

  at_fits : (field : ClusterAddress) (b : AddressParts) → is_bounded_cluster_address field ≡ true
      → address_at family field ≡ Some b → is_canonical_address family b ≡ true
  at_fits Absent b h e = absurd (cc)
  at_fits Headless b h e = absurd (cc)
  at_fits (At a) b h e = found_in a b h e

  -- or of one that may be absent
  taken_fits : (o : Option AddressParts) (b : AddressParts)
      → passes_if_some is_bounded_address o ≡ true → option_and_then (address_in family) o ≡ Some b
      → is_canonical_address family b ≡ true
  taken_fits o b h e =
      let (a, given, taken) = from_and_then _ o b e in
      found_in a b (some_passes _ o a h given) taken

  addresses_fit : (addresses : List AddressParts) → list_all is_bounded_address addresses ≡ true
      → list_all (is_canonical_address family) (addresses_in family addresses) ≡ true
  addresses_fit addresses h =
      all_from _ _ (λ a c.
      let passes : AddressParts → Bool = λ b. same_family b.family family in
      let (stands, same) = from_filter passes a addresses (from_places same_address a _ c) in
      of_family a (from_all _ addresses h a stands) same)

  ranges_fit : (ranges : List RangeParts) → list_all is_bounded_range ranges ≡ true
      → list_all (is_canonical_range family) (ranges_in family ranges) ≡ true
  ranges_fit ranges h =
      all_from _ _ (λ r c.
      let passes : RangeParts → Bool = λ q. same_family q.base.family family in
      let (stands, same) = from_filter passes r ranges (from_places same_range r _ c) in
      range_of_family r (from_all _ ranges h r stands) same)

  restriction_fits : (ranges : Option (List RangeParts))
      → passes_if_some (list_all is_bounded_range) ranges ≡ true
      → passes_if_some (list_all (is_canonical_range family)) (restriction_in family ranges) ≡ true
  restriction_fits None h = refl
  restriction_fits (Some ranges) h = ranges_fit ranges h

-- ---- What a Service and a pod give for a family

cluster_fits : (family : Family) (s : Service) (b : AddressParts) → IsBoundedService s
    → cluster_of_family family s ≡ Some b → is_canonical_address family b ≡ true
cluster_fits V4 s b h e = at_fits V4 s.cluster b h.cluster e
cluster_fits V6 s b h e = taken_fits V6 s.six.cluster b h.six.cluster e

unless_name : (family : Family) (name : Bool) (s : Service) (b : AddressParts) → IsBoundedService s
    → cond name None (cluster_of_family family s) ≡ Some b → is_canonical_address family b ≡ true
unless_name family true s b h e = absurd (cc)
unless_name family false s b h e = cluster_fits family s b h e

external_bounded : (family : Family) (s : Service) → IsBoundedService s
    → list_all is_bounded_address (external_of family s) ≡ true
external_bounded V4 s h = h.external
external_bounded V6 s h = h.six.external

balancer_bounded : (family : Family) (s : Service) → IsBoundedService s
    → list_all is_bounded_address (balancer_of family s) ≡ true
balancer_bounded V4 s h = h.balancer
balancer_bounded V6 s h = h.six.balancer

ranges_bounded : (family : Family) (s : Service) → IsBoundedService s
    → passes_if_some (list_all is_bounded_range) (ranges_of family s) ≡ true
ranges_bounded V4 s h = h.ranges
ranges_bounded V6 s h = where_restricted s.ranges
  where
    where_restricted : (o : Option (List RangeParts))
        → passes_if_some (list_all is_bounded_range) (option_map (λ _v4. s.six.ranges) o) ≡ true
    where_restricted None = refl
    where_restricted (Some ranges) = h.six.ranges

pod_fits : (family : Family) (pod : Pod) (b : AddressParts) → IsBoundedPod pod
    → pod_address family pod ≡ Some b → is_canonical_address family b ≡ true
pod_fits V4 pod b h e = taken_fits V4 pod.address b h.address e
pod_fits V6 pod b h e = taken_fits V6 pod.address6 b h.address6 e

-- an address of a family within its bounds is one
canonical_bounded : (family : Family) (a : AddressParts) → is_canonical_address family a ≡ true
    → is_bounded_address a ≡ true
canonical_bounded family a h =
    subst (λ f. is_canonical_address f a ≡ true)
    (sym (same_family_exact a.family family (and_parts _ _ h).0)) h

-- ---- Endpoints, sources and ports

module _ (family : Family) where
  -- ---- Candidates

  -- candidates at endpoints of the family
  abbrev Fits : Candidate → Type 0
  Fits c = is_canonical_endpoint family c.endpoint ≡ true

  candidate_fits : (node : List ℕ) (number : Option ℕ) (e : SliceEndpoint) (c : Candidate)
      → passes_if_some is_port_number number ≡ true → is_bounded_entry e ≡ true
      → candidate_of family node number e ≡ Some c → Fits c
  candidate_fits node number e c h k made =
      let (n, has, at) = from_and_then
      (λ n. option_map (candidate_at node e n) (option_and_then (address_in family) e.address))
      number c made in
      let (b, taken, is) = from_option_map _ _ c at in
      subst Fits is (and_from _ _ (taken_fits family e.address b k taken)
      (some_passes _ number n h has))

  number_by : (name : List ℕ) (proto : Proto) (p : SlicePort) (n : ℕ) (b : Bool)
      → is_bounded_slice_port p ≡ true → cond b p.port None ≡ Some n → is_port_number n ≡ true
  number_by name proto p n true h e = some_passes _ p.port n h e
  number_by name proto p n false h e = absurd (cc)

  number_fits : (name : List ℕ) (proto : Proto) (ports : List SlicePort)
      → list_all is_bounded_slice_port ports ≡ true
      → passes_if_some is_port_number (number_at name proto ports) ≡ true
  number_fits name proto ports h =
      first_passes is_port_number (filter_map (number_if name proto) ports)
      (all_from _ (filter_map (number_if name proto) ports) (λ n c.
      let (p, stands, is) = from_filter_map (number_if name proto) n ports c in
      number_by name proto p n (bytes_eq p.name name && same_proto p.proto proto)
      (from_all _ ports h p stands) is))

  slice_fits : (node : List ℕ) (port : PortKey) (s : Slice) → IsBoundedSlice s → (c : Candidate)
      → Contains (slice_candidates family node port s) c → Fits c
  slice_fits node port s bounded c d =
      let number : Option ℕ = number_at port.port_name port.proto s.ports in
      let (e, stands, made) = from_filter_map _ c s.endpoints (from_cond _ _ c d) in
      candidate_fits node number e c (number_fits _ port.proto s.ports bounded.ports)
      (from_all _ s.endpoints bounded.endpoints e stands) made

  -- a wanted endpoint whose numbers are within their bounds
  pub record IsBoundedWanted (w : Wanted) : Type 0 where
    pub ports : list_all is_bounded_slice_port w.ports ≡ true
    pub entry : is_bounded_entry w.entry ≡ true

  wanted_fits : (node : List ℕ) (port : PortKey) (w : Wanted) → IsBoundedWanted w → (c : Candidate)
      → wanted_candidate family node port w ≡ Some c → Fits c
  wanted_fits node port w bounded c made =
      candidate_fits node _ w.entry c
      (number_fits _ port.proto w.ports bounded.ports) bounded.entry made

  entries_fit : (node : List ℕ) (sources : ServiceSources) (port : PortKey)
      → ((w : Wanted) → Contains sources.wanted w → IsBoundedWanted w)
      → ((s : Slice) → Contains sources.slices s → IsBoundedSlice s)
      → (c : Candidate) → Contains (entries_from family node sources port) c → Fits c
  entries_fit node sources port wanted slices c d =
      let all : List Candidate = candidates_from family node port sources.wanted sources.slices in
      let here : List Candidate = filter (λ (x : Candidate). x.local) all in
      let named : Candidate → Endpoint × Candidate = λ x. (x.endpoint, x) in
      let (e, in_entries, is) = from_map (λ (f : Endpoint × Candidate). f.1) c
      (in_order endpoint_cmp (map named (reverse here ++ all))) d in
      let (x, in_both, made) = from_map named e (reverse here ++ all)
      (from_in_order endpoint_cmp endpoint_exact (map named (reverse here ++ all)) e in_entries) in
      let stands : Contains all x =
      elim (Contains-append_cases (reverse here) all x in_both) [
        | inl k ↦ (from_filter (λ (y : Candidate). y.local) x all (from_reverse x here k)).0
        | inr k ↦ k
      ] in
      subst Fits (ap (λ (f : Endpoint × Candidate). f.1) made ∙ is)
      (elim (Contains-append_cases (filter_map (wanted_candidate family node port) sources.wanted)
      (flat_map (slice_candidates family node port) sources.slices) x stands) [
        | inl k ↦
            let (w, in_wanted, of_w) =
            from_filter_map (wanted_candidate family node port) x sources.wanted k in
            wanted_fits node port w (wanted w in_wanted) x of_w
        | inr k ↦
            let (s, in_slices, of_s) =
            from_flat_map (slice_candidates family node port) x sources.slices k in
            slice_fits node port s (slices s in_slices) x of_s
      ])

  -- ---- Wanted endpoints

  named_fits : (proto : Proto) (name : List ℕ) (ports : List ContainerPort) (n : ℕ)
      → list_all is_bounded_container_port ports ≡ true
      → option_map (λ (c : ContainerPort). c.port)
      (list.find (λ c. bytes_eq c.name name && same_proto c.proto proto) ports) ≡ Some n
      → is_port_number n ≡ true
  named_fits proto name ports n h e =
      let test : ContainerPort → Bool = λ c. bytes_eq c.name name && same_proto c.proto proto in
      let (c, found, is) = from_option_map (λ (x : ContainerPort). x.port) _ n e in
      ap is_port_number (sym is) ∙ some_passes is_bounded_container_port _ c
      (found_passes is_bounded_container_port test ports h) found

  target_fits : (pod : Pod) (proto : Proto) (t : TargetPort) (n : ℕ) → IsBoundedPod pod
      → is_bounded_target t ≡ true → target_number pod proto t ≡ Some n → is_port_number n ≡ true
  target_fits pod proto (Number m) n bounded h e = ap is_port_number (sym (same_Some m n e)) ∙ h
  target_fits pod proto (Named name) n bounded h e =
      named_fits proto name pod.ports n bounded.ports e

  resolved_fit : (s : Service) (pod : Pod) → IsBoundedService s → IsBoundedPod pod
      → list_all is_bounded_slice_port (resolved_ports s pod) ≡ true
  resolved_fit s pod bounded of_pod =
      all_from _ (resolved_ports s pod) (λ q c.
      let (p, stands, made) = from_filter_map (resolved_port pod) q s.ports c in
      let (n, found, is) = from_option_map
      (λ n. record { name = p.name; proto = p.proto; port = Some n }) _ q made in
      let numbers = and_parts (is_port_number p.port) _
      (from_all _ s.ports bounded.ports p stands) in
      let target = and_parts (is_bounded_target p.target) _ numbers.1 in
      subst (λ (x : SlicePort). is_bounded_slice_port x ≡ true) is
      (target_fits pod p.proto p.target n of_pod target.0 found))

  given_ports : (pod : Pod) (entry : SliceEndpoint) (ports : List SlicePort) (w : Wanted)
      → list_all is_bounded_slice_port ports ≡ true → is_bounded_entry entry ≡ true
      → with_ports pod entry ports ≡ Some w → IsBoundedWanted w
  given_ports pod entry [] w h k e = absurd (cc)
  given_ports pod entry (p ∷ ps) w h k e =
      subst IsBoundedWanted (same_Some _ w e) (record { ports = h; entry = k })

  desired_by : (s : Service) (pod : Pod) (place : Option (List ℕ)) (w : Wanted) (unwanted : Bool)
      → IsBoundedService s → IsBoundedPod pod
      → cond unwanted None
      (option_and_then (λ a. with_ports pod (entry_of s pod place a) (resolved_ports s pod))
      (pod_address family pod)) ≡ Some w → IsBoundedWanted w
  desired_by s pod place w true bounded of_pod e = absurd (cc)
  desired_by s pod place w false bounded of_pod e =
      let (a, given, made) = from_and_then
      (λ a. with_ports pod (entry_of s pod place a) (resolved_ports s pod)) _ w e in
      given_ports pod _ _ w (resolved_fit s pod bounded of_pod)
      (canonical_bounded family a (pod_fits family pod a of_pod given)) made

  desired_fit : (o : Objects) (s : Service) → AreBounded o → IsBoundedService s → (w : Wanted)
      → Contains (desired_endpoints_of family o s) w → IsBoundedWanted w
  desired_fit o s objects bounded w c =
      let (pod, passed, made) = from_filter_map _ w _ c in
      let stands = (from_filter _ pod _ passed).0 in
      desired_by s pod _ w (not (has_family family s) || pod.finished) bounded
      (of_value IsBoundedPod o.pods objects.pods pod stands) made

  -- ---- What endpoints are taken from

  -- sources within their bounds
  pub record AreBoundedSources (sources : ServiceSources) : Type 0 where
    pub wanted : (w : Wanted) → Contains sources.wanted w → IsBoundedWanted w
    pub slices : (s : Slice) → Contains sources.slices s → IsBoundedSlice s

  sources_by : (b : Bool) (x y : ServiceSources) → AreBoundedSources x → AreBoundedSources y
      → AreBoundedSources (cond b x y)
  sources_by true x y h k = h
  sources_by false x y h k = k

  sources_fit : (config : FamilyConfig) (o : Objects) (s : Service) → AreBounded o
      → IsBoundedService s → AreBoundedSources (sources_of family config o s)
  sources_fit config o s objects bounded =
      let of_slice : (t : Slice) → Contains (slices_of o s.key) t → IsBoundedSlice t = λ t c.
      of_value _ o.slices objects.slices t (from_filter _ t _ c).0 in
      sources_by (is_reconciled config s) (record {
        service = s;
        wanted = desired_endpoints_of family o s;
        slices = unmanaged (slices_of o s.key);
      }) (record { service = s; wanted = []; slices = slices_of o s.key }) (record {
        wanted = desired_fit o s objects bounded;
        slices = λ t c. of_slice t (from_filter (λ (x : Slice). not x.managed) t _ c).0;
      }) (record { wanted = λ w c. absurd (none_in w c); slices = of_slice })

  -- ---- Ports

  list_fits : (cs : List Candidate) (p : Candidate → Bool) (es : List Endpoint)
      → ((c : Candidate) → Contains cs c → Fits c) → AreAmong (filter p cs) es
      → list_all (is_canonical_endpoint family) es ≡ true
  list_fits cs p es fit among =
      all_from _ es (λ e d.
      let (c, stands, is) = from_map (λ (x : Candidate). x.endpoint) e _ (among e d) in
      ap (is_canonical_endpoint family) (sym is) ∙ fit c (from_filter p c cs stands).0)

  info_fits : (s : Service) (p : ServicePort) (zone : Option (List ℕ)) (cs : List Candidate)
      (address : AddressParts) → IsBoundedService s → is_bounded_port p ≡ true
      → ((c : Candidate) → Contains cs c → Fits c) → cluster_address_in family s ≡ Some address
      → IsBoundedInfo family (info_from family s p zone cs address)
  info_fits s p zone cs address bounded port fit found =
      let parts = and_parts (is_port_number p.port) _ port in
      let node_port = (and_parts (is_bounded_target p.target) _ parts.1).1 in
      let among = among_usable s.internal s.outer (is_reachable_in family s p) zone cs in
      let here : (c : Candidate) → Contains (local cs) c → Fits c = λ c d.
      fit c (from_filter (λ (x : Candidate). x.local) c cs d).0 in record {
        number = parts.0;
        address = unless_name family _ s address bounded found;
        external =
            addresses_fit family (external_of family s) (external_bounded family s bounded);
        balancer = all_cond (is_canonical_address family) (has_balancer s.kind) _
            (addresses_fit family (balancer_of family s) (balancer_bounded family s bounded));
        node_port = passes_cond _ _ p.node_port node_port;
        ranges = restriction_fits family (ranges_of family s) (ranges_bounded family s bounded);
        affinity = bounded.affinity;
        cluster = list_fits cs is_usable _ fit among.0;
        local = list_fits _ is_usable _ here among.1;
      }

  source_fits : (config : FamilyConfig) (o : Objects) (zone : Option (List ℕ)) (i : PortInfo)
      → AreBounded o → (from : ServiceSources) (s : Service) (p : ServicePort)
      → Contains (finite.values o.services) s → sources_of family config o s ≡ from
      → Contains from.service.ports p → info_of family config.node zone (from, p) ≡ Some i
      → IsBoundedInfo family i
  source_fits config o zone i objects from s p stands is in_ports made =
      let same : from.service ≡ s =
      ap (λ (t : ServiceSources). t.service) (sym is) ∙ sources_service family config o s in
      let of_s : IsBoundedService s = of_value _ o.services objects.services s stands in
      let bounded : IsBoundedService from.service = subst IsBoundedService (sym same) of_s in
      let sources : AreBoundedSources from =
      subst AreBoundedSources is (sources_fit config o s objects of_s) in
      let cs : List Candidate = entries_from family config.node from (port_key_of from.service p) in
      let (address, found, of_i) = from_option_map _ _ i made in
      subst (IsBoundedInfo family) of_i (info_fits from.service p zone cs address bounded
      (from_all _ _ bounded.ports p in_ports) (entries_fit config.node from
      (port_key_of from.service p) sources.wanted sources.slices) found)

-- a port of a Service stands among the ports of its sources
from_service_ports : (services : List ServiceSources) (sp : ServiceSources × ServicePort)
    → Contains (service_ports services) sp → Contains (flat_map ports_of services) sp
from_service_ports services sp c =
    let all : List (ServiceSources × ServicePort) = flat_map ports_of services in
    let named : ServiceSources × ServicePort → PortKey × (ServiceSources × ServicePort) = λ x.
    (name_of_port x, x) in
    let (e, in_entries, is) = from_map (λ (f : PortKey × (ServiceSources × ServicePort)). f.1) sp
    _ c in
    let (x, in_all, made) = from_map named e all (from_reverse e _
    (from_in_order port_key_cmp port_key_exact _ e in_entries)) in
    subst (Contains all) (ap (λ (f : PortKey × (ServiceSources × ServicePort)). f.1) made
    ∙ is) in_all

pub ports_are_bounded : PortsAreBounded
ports_are_bounded family config o i objects c =
    let zone : Option (List ℕ) = zone_of o config.node in
    let services : List ServiceSources =
    map (sources_of family config o) (finite.values o.services) in
    let (sp, in_ports, made) = from_filter_map _ i _ c in
    let (from, in_sources, in_its) =
    from_flat_map ports_of sp services (from_service_ports services sp in_ports) in
    let (s, stands, is) = from_map _ from _ in_sources in
    let (p, of_service, same) = from_map (λ q. (from, q)) sp _ in_its in
    source_fits family config o zone i objects from s p stands is of_service
    (ap (info_of family config.node zone) same ∙ made)
