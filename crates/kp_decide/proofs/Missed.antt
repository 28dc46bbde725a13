-- A port that a packet can't be for gives it no door and no line.
use Rattle.std.proofs.Common.{◌≡◌, ℕ, ◌==◌, ◌&&◌, ◌||◌, Bool, true, false, true≢false, cond, List, [], ◌∷◌, ◌++◌, map, filter, Contains, Option, Some, None, option_and_then, option_map, is_some, refl, sym, ap, subst, ◌∙◌}
use Rattle.std.specs.List.{list_any}
use Rattle.std.specs.Option.{option_to_list}
use Rattle.std.proofs.lemmas.Bool.{and_from, and_parts, or_from, or_left, or_parts, or_right, false_from_ne_true}
use Rattle.std.proofs.lemmas.Option.{same_Some}
use Rattle.kp_lemmas.proofs.Members.{none_in, none_passes, from_filter, any_from}
use Rattle.kp_base.specs.Net.{AddressParts, same_address, same_family}
use Rattle.kp_base.specs.declared.address.Family.{Family}
use Rattle.kp_base.specs.declared.address.Family.TheVariants.{V4, V6}
use Rattle.kp_types.specs.Ports.{same_proto}
use Rattle.kp_types.specs.Setting.{FamilyConfig}
use Rattle.kp_types.specs.declared.packet.Packet.{Packet}
use Rattle.kp_types.specs.declared.decision.DoorKind.{DoorKind}
use Rattle.kp_types.specs.declared.decision.DoorKind.TheVariants as door
use Rattle.kp_types.specs.declared.service.Service.{Service}
use Rattle.kp_types.specs.declared.service.ServicePort.{ServicePort}
use Rattle.kp_types.specs.declared.info.ServiceSources.{ServiceSources}
use Rattle.kp_types.specs.declared.lists.Candidate.{Candidate}
use Rattle.kp_types.specs.declared.service.ClusterAddress.{ClusterAddress}
use Rattle.kp_types.specs.declared.service.ClusterAddress.TheVariants.{Absent, Headless, At}
use Rattle.kp_object_defs.specs.Desired.{address_in, is_empty, is_external_name}
use Rattle.kp_object_defs.specs.Entries.{entries_from}
use Rattle.kp_object_defs.specs.PortInfo.{PortInfo, address_at, addresses_in, balancer_in, balancer_of, cluster_address_in, cluster_of_family, external_in, external_list, external_of, has_balancer, has_node_port, info_from, info_of, internal_list, node_port_of, port_key_of}
use Rattle.kp_door_defs.specs.Doors.{Door, address_doors, door_at, fits, is_at, node_door}
use Rattle.kp_door_defs.specs.Filter.{DropsClosed, Line, Refusal, external_lines, firewall_lines, line_of, refusal_by, service_lines}
use Rattle.kp_object_laws.proofs.FirstPlaces.{from_places}
use Rattle.kp_store.specs.Destinations.{addresses_at, cluster_addresses, has_address, is_address_of, is_node_port, port_answers}
use Rattle.kp_store.proofs.Selected.{in_family}
use Rattle.kp_decide.proofs.Passing.{none_both, none_left, none_mapped, none_used}

-- an address of a family that is listed is listed
listed : (family : Family) (target x : AddressParts) (xs : List AddressParts) → Contains (addresses_in family xs) x → same_address x target ≡ true → has_address target xs ≡ true
listed family target x xs c same =
    any_from (λ a. same_address a target) x xs (from_filter (λ a. same_family a.family family) x xs (from_places same_address x (filter (λ a. same_family a.family family) xs) c)).0 same

-- what is known of a port of a Service, as far as its doors go
pub record Shows (family : Family) (s : Service) (p : ServicePort) (i : PortInfo) : Type 0 where
  pub proto : i.key.proto ≡ p.proto
  pub number : i.number ≡ p.port
  pub address : cluster_address_in family s ≡ Some i.address
  pub external : i.external ≡ external_in family s
  pub balancer : i.balancer ≡ balancer_in family s
  pub node_port : i.node_port ≡ node_port_of s p

shown_from : (family : Family) (zone : Option (List ℕ)) (s : Service) (p : ServicePort) (entries : List Candidate) (a : Option AddressParts) (i : PortInfo) → cluster_address_in family s ≡ a → option_map (info_from family s p zone entries) a ≡ Some i → Shows family s p i
shown_from family place s p entries None i at h = absurd (cc)
shown_from family place s p entries (Some a) i at h =
    let is = same_Some (info_from family s p place entries a) i h in
    record {
      proto = ap (λ (j : PortInfo). j.key.proto) (sym is);
      number = ap (λ (j : PortInfo). j.number) (sym is);
      address = at ∙ ap (λ (j : PortInfo). Some j.address) is;
      external = ap (λ (j : PortInfo). j.external) (sym is);
      balancer = ap (λ (j : PortInfo). j.balancer) (sym is);
      node_port = ap (λ (j : PortInfo). j.node_port) (sym is);
    }

pub shown_of : (family : Family) (node : List ℕ) (zone : Option (List ℕ)) (sources : ServiceSources) (s : Service) (p : ServicePort) (i : PortInfo) → sources.service ≡ s → info_of family node zone (sources, p) ≡ Some i → Shows family s p i
shown_of family node zone sources s p i is h =
    subst (λ t. Shows family t p i) is (shown_from family zone sources.service p (entries_from family node sources (port_key_of sources.service p)) (cluster_address_in family sources.service) i refl h)

module _ (family : Family) (config : FamilyConfig) (packet : Packet) (s : Service) (p : ServicePort) (i : PortInfo) (shows : Shows family s p i) (miss : port_answers packet.proto packet.target packet.port s p ≡ false) where
  abbrev fitting : Door → Bool
  fitting d = fits config.addresses packet d

  -- the packet isn't for the port at an address of its Service
  misses_at : (kind : DoorKind) (a : AddressParts) → (same_address a packet.target ≡ true → is_address_of packet.target s ≡ true) → fitting (door_at kind i a) ≡ false
  misses_at kind a has =
      false_from_ne_true (fitting (door_at kind i a)) (λ h.
      let parts = and_parts (same_proto i.key.proto packet.proto && (i.number == packet.port)) (same_address a packet.target) h in
      let inner = and_parts (same_proto i.key.proto packet.proto) (i.number == packet.port) parts.0 in
      true≢false (sym (and_from (same_proto p.proto packet.proto) (((p.port == packet.port) && is_address_of packet.target s) || is_node_port packet.port p.node_port)
      (ap (λ q. same_proto q packet.proto) (sym shows.proto) ∙ inner.0)
      (or_left ((p.port == packet.port) && is_address_of packet.target s) (is_node_port packet.port p.node_port)
      (and_from (p.port == packet.port) (is_address_of packet.target s) (ap (λ n. n == packet.port) (sym shows.number) ∙ inner.1) (has parts.1)))) ∙ miss))

  own_node_port : (b : Bool) (own : Option ℕ) (n : ℕ) → cond b own None ≡ Some n → own ≡ Some n
  own_node_port true own n h = h
  own_node_port false own n h = absurd (cc)

  -- nor at its node port
  pub misses_node : (own : Option ℕ) → i.node_port ≡ own → list_any fitting (node_door i own) ≡ false
  misses_node None is = refl
  misses_node (Some n) is =
      or_from (fitting (record { kind = door.Node; info = i; address = None; number = n })) false
      (false_from_ne_true (fitting (record { kind = door.Node; info = i; address = None; number = n })) (λ h.
      let parts = and_parts (same_proto i.key.proto packet.proto && (n == packet.port)) (is_at i.address.family config.addresses None packet.target) h in
      let inner = and_parts (same_proto i.key.proto packet.proto) (n == packet.port) parts.0 in
      let own : p.node_port ≡ Some n = own_node_port (has_node_port s.kind) p.node_port n (sym shows.node_port ∙ is) in
      true≢false (sym (and_from (same_proto p.proto packet.proto) (((p.port == packet.port) && is_address_of packet.target s) || is_node_port packet.port p.node_port)
      (ap (λ q. same_proto q packet.proto) (sym shows.proto) ∙ inner.0)
      (or_right ((p.port == packet.port) && is_address_of packet.target s) (is_node_port packet.port p.node_port) (ap (is_node_port packet.port) own ∙ inner.1))) ∙ miss)))
      refl

  -- the address of a field in a family is the field's
  field_has : (a : AddressParts) (b : Bool) → cond b (Some a) None ≡ Some i.address → same_address i.address packet.target ≡ true → has_address packet.target (a ∷ []) ≡ true
  field_has a true h same =
      or_left (same_address a packet.target) false (ap (λ b. same_address b packet.target) (same_Some a i.address h) ∙ same)
  field_has a false h same = absurd (cc)

  -- the cluster address is one that the Service gives for the family
  first_listed : (c : ClusterAddress) → address_at V4 c ≡ Some i.address → same_address i.address packet.target ≡ true → has_address packet.target (addresses_at c) ≡ true
  first_listed Absent h same = absurd (cc)
  first_listed Headless h same = absurd (cc)
  first_listed (At a) h same = field_has a (same_family a.family V4) h same

  second_listed : (c : Option AddressParts) → option_and_then (address_in V6) c ≡ Some i.address → same_address i.address packet.target ≡ true → has_address packet.target (option_to_list c) ≡ true
  second_listed None h same = absurd (cc)
  second_listed (Some a) h same = field_has a (same_family a.family V6) h same

  given_listed : (f : Family) → cluster_of_family f s ≡ Some i.address → same_address i.address packet.target ≡ true → has_address packet.target (cluster_addresses f s) ≡ true
  given_listed V4 h same = first_listed s.cluster h same
  given_listed V6 h same = second_listed s.six.cluster h same

  cluster_listed : (name : Bool) → cond name None (cluster_of_family family s) ≡ Some i.address → same_address i.address packet.target ≡ true → has_address packet.target (cluster_addresses family s) ≡ true
  cluster_listed true h same = absurd (cc)
  cluster_listed false h same = given_listed family h same

  -- the addresses that the Service gives for the family, by their fields
  abbrev at_cluster : Bool
  at_cluster = has_address packet.target (cluster_addresses family s)

  abbrev at_external : Bool
  at_external = has_address packet.target (external_of family s)

  abbrev at_balancer : Bool
  at_balancer = has_address packet.target (balancer_of family s)

  misses_cluster : fitting (door_at door.Cluster i i.address) ≡ false
  misses_cluster =
      misses_at door.Cluster i.address (λ same.
      in_family family packet.target s
      (or_left at_cluster (at_external || at_balancer) (cluster_listed (is_external_name s.kind) shows.address same)))

  misses_external : list_any fitting (map (door_at door.External i) i.external) ≡ false
  misses_external =
      ap (λ xs. list_any fitting (map (door_at door.External i) xs)) shows.external
      ∙ none_mapped fitting (door_at door.External i) (external_in family s) (λ a c.
      misses_at door.External a (λ same.
      in_family family packet.target s
      (or_right at_cluster (at_external || at_balancer)
      (or_left at_external at_balancer (listed family packet.target a (external_of family s) c same)))))

  balancer_listed : (b : Bool) (a : AddressParts) → Contains (cond b (addresses_in family (balancer_of family s)) []) a → same_address a packet.target ≡ true → at_balancer ≡ true
  balancer_listed true a c same = listed family packet.target a (balancer_of family s) c same
  balancer_listed false a c same = absurd (none_in a c)

  misses_balancer : list_any fitting (map (door_at door.Balancer i) i.balancer) ≡ false
  misses_balancer =
      ap (λ xs. list_any fitting (map (door_at door.Balancer i) xs)) shows.balancer
      ∙ none_mapped fitting (door_at door.Balancer i) (balancer_in family s) (λ a c.
      misses_at door.Balancer a (λ same.
      in_family family packet.target s
      (or_right at_cluster (at_external || at_balancer)
      (or_right at_external at_balancer (balancer_listed (has_balancer s.kind) a c same)))))

  -- nor at any of its addresses
  pub misses_addresses : list_any fitting (address_doors i) ≡ false
  misses_addresses = or_from (fitting (door_at door.Cluster i i.address)) (list_any fitting (map (door_at door.External i) i.external ++ map (door_at door.Balancer i) i.balancer)) misses_cluster (none_both fitting (map (door_at door.External i) i.external) (map (door_at door.Balancer i) i.balancer) misses_external misses_balancer)

  lined : (refusal : Refusal) (ds : List Door) → list_any fitting ds ≡ false → list_any (λ (l : Line). fitting l.door) (map (line_of refusal) ds) ≡ false
  lined refusal ds h = none_mapped (λ (l : Line). fitting l.door) (line_of refusal) ds (λ d c. none_passes fitting d ds h c)

  pub no_address_door : filter fitting (address_doors i) ≡ []
  no_address_door = none_left fitting (address_doors i) misses_addresses

  pub no_node_door : filter fitting (node_door i i.node_port) ≡ []
  no_node_door = none_left fitting (node_door i i.node_port) (misses_node i.node_port refl)

  pub no_firewall : filter (λ (l : Line). fitting l.door) (firewall_lines i) ≡ []
  no_firewall =
      none_left (λ (l : Line). fitting l.door) (firewall_lines i)
      (none_used (λ (l : Line). fitting l.door) (is_some i.ranges && i.lists.has_any) (map (λ a. line_of DropsClosed (door_at door.Balancer i a)) i.balancer)
      (none_mapped (λ (l : Line). fitting l.door) (λ a. line_of DropsClosed (door_at door.Balancer i a)) i.balancer
      (λ a c. none_passes (λ b. fitting (door_at door.Balancer i b)) a i.balancer (unmapped i.balancer misses_balancer) c)))
    where
      unmapped : (xs : List AddressParts) → list_any fitting (map (door_at door.Balancer i) xs) ≡ false → list_any (λ b. fitting (door_at door.Balancer i b)) xs ≡ false
      unmapped [] h = refl
      unmapped (a ∷ xs) h =
          let parts = or_parts (fitting (door_at door.Balancer i a)) (list_any fitting (map (door_at door.Balancer i) xs)) h in
          or_from (fitting (door_at door.Balancer i a)) (list_any (λ b. fitting (door_at door.Balancer i b)) xs) parts.0 (unmapped xs parts.1)

  pub no_external : filter (λ (l : Line). fitting l.door) (external_lines i) ≡ []
  no_external =
      let doors = map (door_at door.External i) i.external ++ map (door_at door.Balancer i) i.balancer ++ node_door i i.node_port in
      none_left (λ (l : Line). fitting l.door) (external_lines i)
      (none_used (λ (l : Line). fitting l.door) (is_empty (external_list i)) (map (line_of (refusal_by i.lists.has_any)) doors)
      (lined (refusal_by i.lists.has_any) doors
      (none_both fitting (map (door_at door.External i) i.external ++ map (door_at door.Balancer i) i.balancer) (node_door i i.node_port)
      (none_both fitting (map (door_at door.External i) i.external) (map (door_at door.Balancer i) i.balancer) misses_external misses_balancer)
      (misses_node i.node_port refl))))

  pub no_service : filter (λ (l : Line). fitting l.door) (service_lines i) ≡ []
  no_service =
      none_left (λ (l : Line). fitting l.door) (service_lines i)
      (none_used (λ (l : Line). fitting l.door) (is_empty (internal_list i)) (line_of (refusal_by i.lists.has_any) (door_at door.Cluster i i.address) ∷ [])
      (or_from (fitting (door_at door.Cluster i i.address)) false misses_cluster refl))
