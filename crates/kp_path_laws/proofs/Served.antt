-- What addresses of one kind get: the same door, the same list, and the same lines of the filter.
use Rattle.std.proofs.Common.{◌≡◌, inl, inr, ◌+◌, Bool, true, false, not, ◌&&◌, ◌||◌, cond, List, [], ◌∷◌, ◌++◌, length, map, Contains, count_by, Option, Some, None, is_some, option_map, filter, flat_map, refl, sym, ap, ap₂, subst, ◌∙◌}
use Rattle.std.specs.List.{find, list_any}
use Rattle.std.specs.Option.{option_to_list}
use Rattle.std.proofs.lemmas.Bool.{and_parts}
use Rattle.std.proofs.lemmas.List.Elements.{Contains-append_left, Contains-append_right, Contains-append_cases}
use Rattle.std.proofs.lemmas.List.Sums.{sum_by-cons}
use Rattle.std.proofs.lemmas.Option.{same_Some}
use Rattle.kp_lemmas.proofs.Members.{first_in, from_flat_map, from_map, in_cases, in_filter, in_flat_map, in_map, later_in, none_in}
use Rattle.kp_base.specs.Net.{AddressParts, RangeParts, is_local_address}
use Rattle.kp_base.specs.declared.key.Endpoint.{Endpoint}
use Rattle.kp_types.specs.Setting.{FamilyConfig}
use Rattle.kp_types.specs.declared.decision.DoorKind.{DoorKind}
use Rattle.kp_types.specs.declared.decision.DoorKind.TheVariants as door
use Rattle.kp_types.specs.declared.packet.Packet.{Packet}
use Rattle.kp_types.specs.declared.service.Policy.{Policy}
use Rattle.kp_types.specs.declared.service.Policy.TheVariants.{Cluster, Local}
use Rattle.kp_object_defs.specs.Desired.{is_empty}
use Rattle.kp_object_defs.specs.PortInfo.{PortInfo, external_list, internal_list}
use Rattle.kp_door_defs.specs.Decision.{sent_to}
use Rattle.kp_door_defs.specs.Doors.{Door, Offer, address_doors, door_at, doors_of, fits, is_admitted, is_in_cluster, node_door, offer_by_policy, offer_if, offer_of, offered, outer_offer, taking_door, takes}
use Rattle.kp_door_defs.specs.Filter.{Forward, Hook, Input, Line, Output, Refusal, external_lines, filtered, firewall_lines, hook_lines, hooks_by, hooks_of, line_of, refusal_by, service_lines, DropsClosed}
use Rattle.kp_door_defs.specs.Marks.{is_from_node, leaves_node, marked_at, marked_outside}
use Rattle.kp_decide.specs.Findings.{fitting_doors}
use Rattle.kp_change_laws.proofs.DoorKinds.{doors_of_kind, found, in_port}
use Rattle.kp_path_defs.specs.Asides.{admits}
use Rattle.kp_path_defs.specs.Paths.{first_of, refusing_door}
use Rattle.kp_path_defs.specs.Sources.{Closes, Counts, Opens, Restricted, Served, Source, asked_from, cause_at, counts_of, is_masked_at, is_refused_at, is_within, kinds_of, origin_by, ranges_at, restricted, restricted_if, same_kind, served_by, served_of, source_at, sources_of, verdict_untaken}
use Rattle.kp_path_defs.specs.Sources as sources
use Rattle.kp_path_laws.proofs.Endpoints.{some_first, some_found}
use Rattle.kp_path_laws.proofs.SourceKinds.{IsAlike, from_kind, one_kind}
use Rattle.kp_path_laws.specs.SourceLaws.{OneSource, ServedAlike, asked_of}

-- ---- Doors of lines

module _ (infos : List PortInfo) where
  in_doors : (i : PortInfo) (d : Door) → Contains infos i
      → Contains (address_doors i ++ node_door i i.node_port) d → Contains (doors_of infos) d
  in_doors i d c mine =
      let nodes : PortInfo → List Door = λ i. node_door i i.node_port in
      elim (Contains-append_cases (address_doors i) (nodes i) d mine) [
        | inl at_address ↦ Contains-append_left (flat_map address_doors infos)
            (flat_map nodes infos) d (in_flat_map address_doors i d infos c at_address)
        | inr at_node ↦ Contains-append_right (flat_map address_doors infos) (flat_map nodes infos)
            d (in_flat_map nodes i d infos c at_node)
      ]

  of_kind : (k : DoorKind) (i : PortInfo) (d : Door) → Contains infos i
      → Contains (doors_of_kind k i) d → Contains (doors_of infos) d
  of_kind k i d c mine = in_doors i d c (in_port k i d mine)

  where_it_holds : {X : Type 0} (b : Bool) (xs : List X) (x : X) → Contains (cond b xs []) x
      → Contains xs x
  where_it_holds true xs x c = c
  where_it_holds false xs x c = absurd (none_in x c)

  line_at : (r : Refusal) (d : Door) (l : Line) → line_of r d ≡ l → Contains (doors_of infos) d
      → Contains (doors_of infos) l.door
  line_at r d l is c = subst (λ (x : Line). Contains (doors_of infos) x.door) is c

  of_firewall : (i : PortInfo) (l : Line) → Contains infos i → Contains (firewall_lines i) l
      → Contains (doors_of infos) l.door
  of_firewall i l c mine =
      let (a, there, is) = from_map (λ a. line_of DropsClosed (door_at door.Balancer i a)) l
      i.balancer (where_it_holds (is_some i.ranges && i.lists.has_any) _ l mine) in
      line_at DropsClosed (door_at door.Balancer i a) l is
      (of_kind door.Balancer i (door_at door.Balancer i a) c
      (in_map (door_at door.Balancer i) a i.balancer there))

  of_external : (i : PortInfo) (l : Line) → Contains infos i → Contains (external_lines i) l
      → Contains (doors_of infos) l.door
  of_external i l c mine =
      let r = refusal_by i.lists.has_any in
      let outer = doors_of_kind door.External i ++ doors_of_kind door.Balancer i in
      let (d, there, is) = from_map (line_of r) l (outer ++ node_door i i.node_port)
      (where_it_holds (is_empty (external_list i)) _ l mine) in
      line_at r d l is
      (elim (Contains-append_cases outer (node_door i i.node_port) d there) [
        | inl near ↦
            elim (Contains-append_cases (doors_of_kind door.External i)
            (doors_of_kind door.Balancer i) d near) [
              | inl e ↦ of_kind door.External i d c e
              | inr e ↦ of_kind door.Balancer i d c e
            ]
        | inr e ↦ of_kind door.Node i d c e
      ])

  of_service : (i : PortInfo) (l : Line) → Contains infos i → Contains (service_lines i) l
      → Contains (doors_of infos) l.door
  of_service i l c mine =
      let r = refusal_by i.lists.has_any in
      let d = door_at door.Cluster i i.address in
      elim (in_cases l (line_of r d) []
      (where_it_holds (is_empty (internal_list i)) (line_of r d ∷ []) l mine)) [
        | inl is ↦ line_at r d l is (of_kind door.Cluster i d c (first_in d []))
        | inr none ↦ absurd (none_in l none)
      ]

  all_of : (f : PortInfo → List Line)
      → ((i : PortInfo) (l : Line) → Contains infos i → Contains (f i) l
      → Contains (doors_of infos) l.door)
      → (l : Line) → Contains (flat_map f infos) l → Contains (doors_of infos) l.door
  all_of f each l c = let (i, there, mine) = from_flat_map f l infos c in each i l there mine

  -- the door of a line is one of the ports' doors
  of_hook : (h : Hook) (l : Line) → Contains (hook_lines h infos) l
      → Contains (doors_of infos) l.door
  of_hook Input l c =
      elim (Contains-append_cases (flat_map firewall_lines infos) (flat_map external_lines infos) l
      c) [
        | inl e ↦ all_of firewall_lines of_firewall l e
        | inr e ↦ all_of external_lines of_external l e
      ]
  of_hook Forward l c =
      elim (Contains-append_cases (flat_map firewall_lines infos ++ flat_map external_lines infos)
      (flat_map service_lines infos) l c) [
        | inl near ↦
            elim (Contains-append_cases (flat_map firewall_lines infos)
            (flat_map external_lines infos) l near) [
              | inl e ↦ all_of firewall_lines of_firewall l e
              | inr e ↦ all_of external_lines of_external l e
            ]
        | inr e ↦ all_of service_lines of_service l e
      ]
  of_hook Output l c =
      elim (Contains-append_cases (flat_map firewall_lines infos) (flat_map service_lines infos) l
      c) [
        | inl e ↦ all_of firewall_lines of_firewall l e
        | inr e ↦ all_of service_lines of_service l e
      ]

module _ (config : FamilyConfig) (infos : List PortInfo) where
  -- the door that refuses a packet fits it
  pub refusing_fits : (packet : Packet) (d : Door) → refusing_door config infos packet ≡ Some d
      → Contains (fitting_doors config infos packet) d
  refusing_fits packet d h = by (filtered config infos packet) refl h
    where
      fitting : Door → Bool
      fitting = fits config.addresses packet

      by : (o : Option Line) → filtered config infos packet ≡ o
          → first_of (option_map (λ line. line.door) o) (find fitting (doors_of infos)) ≡ Some d
          → Contains (filter fitting (doors_of infos)) d
      by None e g = let (there, fit) = found fitting (doors_of infos) d g in in_filter fitting d
          (doors_of infos) there fit
      by (Some l) e g =
          let (there, fit) = found (λ (l : Line). fits config.addresses packet l.door)
          (flat_map (λ h. hook_lines h infos) (hooks_of config packet)) l e in
          let (hook, of, mine) = from_flat_map (λ h. hook_lines h infos) l (hooks_of config packet)
          there in
          subst (Contains (filter fitting (doors_of infos))) (same_Some l.door d g)
          (in_filter fitting l.door (doors_of infos) (of_hook infos hook l mine) fit)

-- ---- One source of each kind

module _ (config : FamilyConfig) (infos : List PortInfo) (packet : Packet) (rs : List Restricted)
    (fit : list_any (fits config.addresses packet) (doors_of infos) ≡ true) where
  some_refusing : (a : AddressParts)
      → is_some (refusing_door config infos (asked_from config packet a)) ≡ true
  some_refusing a =
      some_first (option_map (λ line. line.door)
      (filtered config infos (asked_from config packet a)))
      (find (fits config.addresses packet) (doors_of infos))
      (some_found (fits config.addresses packet) (doors_of infos) fit)

  -- one source of an address
  record IsOneSource (a : AddressParts) (sources : List Source) : Type 0 where
    source : Source
    only : sources ≡ source ∷ []
    address : source.address ≡ a

  one_source_at : (a : AddressParts) → IsOneSource a (source_at config infos packet rs a)
  one_source_at a = by (served_of config infos (asked_from config packet a))
      (some_served (taking_door config infos (asked_from config packet a))
      (refusing_door config infos (asked_from config packet a)) (some_refusing a))
    where
      some_served : (o r : Option Door) → is_some r ≡ true
          → is_some (served_by config infos (asked_from config packet a) o r) ≡ true
      some_served (Some d) r h = refl
      some_served None (Some d) h = refl
      some_served None None h = absurd (cc)

      by : (o : Option Served) → is_some o ≡ true
          → IsOneSource a (map (λ served. record {
            address = a;
            whence = sources.whence_of config a;
            within = map (λ r. r.port)
                (filter (is_within a) rs);
            served = served;
          }) (option_to_list o))
      by None h = absurd (cc)
      by (Some served) h = record {
        source = record {
          address = a;
          whence = sources.whence_of config a;
          within = map
              (λ r. r.port) (filter (is_within a) rs);
          served = served;
        };
        only = refl;
        address = refl;
      }

  counted_by_address : (p : AddressParts → Bool) (ks : List AddressParts)
      → count_by (λ s. p s.address) (flat_map (source_at config infos packet rs) ks) ≡ count_by p ks
  counted_by_address p [] = refl
  counted_by_address p (k ∷ ks) =
      let one = one_source_at k in
      let rest = flat_map (source_at config infos packet rs) ks in
      ap (λ first. count_by (λ s. p s.address) (first ++ rest)) one.only
      ∙ sum_by-cons (λ (s : Source). cond (p s.address) 1 0) one.source rest
      ∙ ap₂ (λ x n. cond (p x) 1 0 + n) one.address (counted_by_address p ks)
      ∙ sym (sum_by-cons (λ x. cond (p x) 1 0) k ks)

pub one_source : OneSource
one_source family config infos packet a fit is low =
    let rs = asked_of config infos packet in
    counted_by_address config infos packet rs fit (same_kind config rs a)
    (kinds_of family config rs)
    ∙ one_kind family config rs a is low

-- ---- Addresses of one kind

module _ (config : FamilyConfig) (a b : AddressParts)
    (cluster : is_in_cluster config a ≡ is_in_cluster config b)
    (own : is_local_address config.addresses a ≡ is_local_address config.addresses b) where
  outer_alike : (i : PortInfo) (p : Policy) → outer_offer config i p a ≡ outer_offer config i p b
  outer_alike i Cluster = refl
  outer_alike i Local = λ j. cond (cluster j || own j) (offer_by_policy i Cluster)
      (offer_by_policy i Local)

  offered_alike : (k : DoorKind) (i : PortInfo) → admits k i a ≡ admits k i b → offered config k i a
      ≡ offered config k i b
  offered_alike door.Cluster i h = refl
  offered_alike door.External i h = outer_alike i i.outer
  offered_alike door.Balancer i h = λ j. offer_if (h j) (outer_alike i i.outer j)
  offered_alike door.Node i h = outer_alike i i.outer

  outside_alike : (p : Policy) → marked_outside config p a ≡ marked_outside config p b
  outside_alike Cluster = refl
  outside_alike Local = λ j. own j && not (cluster j)

  pub marked_alike : (k : DoorKind) (i : PortInfo) → marked_at config k i a ≡ marked_at config k i b
  marked_alike door.Cluster i = λ j. config.masquerade_all
      || (is_some config.cluster && not (cluster j))
  marked_alike door.External i = outside_alike i.outer
  marked_alike door.Balancer i = outside_alike i.outer
  marked_alike door.Node i = outside_alike i.outer

  -- the filter doesn't ask for the source
  pub filtered_alike : (infos : List PortInfo) (packet : Packet)
      → filtered config infos (asked_from config packet a)
      ≡ filtered config infos (asked_from config packet b)
  filtered_alike infos packet =
      λ j. find (λ l. fits config.addresses packet l.door)
      (flat_map (λ h. hook_lines h infos)
      (hooks_by (origin_by (own j)) (is_local_address config.addresses packet.target)))

find_same : {X : Type 0} (p q : X → Bool) (xs : List X) → ((x : X) → Contains xs x → p x ≡ q x)
    → find p xs ≡ find q xs
find_same p q [] same = refl
find_same p q (x ∷ xs) same =
    λ i. cond (same x (first_in x xs) i) (Some x)
    (find_same p q xs (λ y c. same y (later_in y x xs c)) i)

module _ (config : FamilyConfig) (infos : List PortInfo) (packet : Packet) (a b : AddressParts)
    (alike : IsAlike config (asked_of config infos packet) a b) where
  -- a door that fits admits both, or none
  admitted_alike : (d : Door) → Contains (fitting_doors config infos packet) d
      → admits d.kind d.info a ≡ admits d.kind d.info b
  admitted_alike d c = by d.kind d.info.ranges
      (λ r mine. alike.ranges r
      (in_flat_map (λ (d : Door). restricted_if d.info.key (ranges_at d.kind d.info)) d r
      (fitting_doors config infos packet) c mine))
    where
      of_ranges : (ranges : Option (List RangeParts))
          → ((r : Restricted) → Contains (restricted_if d.info.key ranges) r → is_within a r
          ≡ is_within b r)
          → is_admitted ranges a ≡ is_admitted ranges b
      of_ranges None each = refl
      of_ranges (Some ranges) each = each (record { port = d.info.key; ranges = ranges })
          (first_in _ [])

      by : (k : DoorKind) (ranges : Option (List RangeParts))
          → ((r : Restricted) → Contains (restricted_if d.info.key (ranges_at k d.info)) r
          → is_within a r ≡ is_within b r)
          → admits k d.info a ≡ admits k d.info b
      by door.Cluster ranges each = refl
      by door.External ranges each = refl
      by door.Node ranges each = refl
      by door.Balancer ranges each = of_ranges d.info.ranges each

  pub offer_alike : (d : Door) → Contains (fitting_doors config infos packet) d
      → offer_of config (asked_from config packet a) d
      ≡ offer_of config (asked_from config packet b) d
  offer_alike d c = offered_alike config a b alike.cluster alike.own d.kind d.info
      (admitted_alike d c)

  takes_alike : (d : Door) → Contains (doors_of infos) d
      → takes config (asked_from config packet a) d ≡ takes config (asked_from config packet b) d
  takes_alike d c = by (fits config.addresses packet d) refl
    where
      by : (t : Bool) → fits config.addresses packet d ≡ t
          → (t && not (is_empty (offer_of config (asked_from config packet a) d).endpoints))
          ≡ (t && not (is_empty (offer_of config (asked_from config packet b) d).endpoints))
      by false e = refl
      by true e = ap (λ (o : Offer). not (is_empty o.endpoints))
          (offer_alike d (in_filter (fits config.addresses packet) d (doors_of infos) c e))

  pub taking_alike : taking_door config infos (asked_from config packet a)
      ≡ taking_door config infos (asked_from config packet b)
  taking_alike = find_same (takes config (asked_from config packet a))
      (takes config (asked_from config packet b)) (doors_of infos) takes_alike

  -- the door that takes a packet from either fits it
  pub taking_fits : (d : Door) → taking_door config infos (asked_from config packet a) ≡ Some d
      → Contains (fitting_doors config infos packet) d
  taking_fits d h =
      let (there, takes_it) = found (takes config (asked_from config packet a)) (doors_of infos) d
      h in
      in_filter (fits config.addresses packet) d (doors_of infos) there
      (and_parts (fits config.addresses packet d)
      (not (is_empty (offer_of config (asked_from config packet a) d).endpoints)) takes_it).0

  refusing_alike : refusing_door config infos (asked_from config packet a)
      ≡ refusing_door config infos (asked_from config packet b)
  refusing_alike =
      ap (λ (o : Option Line). first_of (option_map (λ line. line.door) o)
      (find (fits config.addresses packet) (doors_of infos)))
      (filtered_alike config a b alike.cluster alike.own infos packet)

  refused_alike : (e : Endpoint) → is_refused_at config infos (asked_from config packet a) e
      ≡ is_refused_at config infos (asked_from config packet b) e
  refused_alike e = ap is_some
      (filtered_alike config a b alike.cluster alike.own infos (sent_to packet e))

  pub leaves_alike : (target : AddressParts)
      → leaves_node config (asked_from config packet a) target
      ≡ leaves_node config (asked_from config packet b) target
  leaves_alike target = λ j. is_from_node (origin_by (alike.own j))
      || not (is_local_address config.addresses target)

  masked_alike : (d : Door) (e : Endpoint) → is_masked_at config d (asked_from config packet a) e
      ≡ is_masked_at config d (asked_from config packet b) e
  masked_alike d e = λ j. marked_alike config a b alike.cluster alike.own d.kind d.info j
      && leaves_alike e.address j

  counts_alike : (d : Door) (x y : Offer) → x ≡ y
      → counts_of config infos (asked_from config packet a) d x.endpoints
      ≡ counts_of config infos (asked_from config packet b) d y.endpoints
  counts_alike d x y same = λ j.
      let served : List Endpoint = filter (λ e. not (refused_alike e j)) (same j).endpoints in
      record {
        served = length served;
        masked = count_by (λ e. masked_alike d e j) served;
        refused = count_by (λ e. refused_alike e j) (same j).endpoints;
      }

  cause_alike : (d : Door) → admits d.kind d.info a ≡ admits d.kind d.info b → cause_at d a
      ≡ cause_at d b
  cause_alike d h = ap (λ t. cond d.info.lists.has_any
      (cond t sources.NoLocalEndpoints sources.NotAdmitted) sources.NoEndpoints) h

  by_doors : (taking refusing : Option Door) → taking_door config infos (asked_from config packet a)
      ≡ taking → refusing_door config infos (asked_from config packet a) ≡ refusing
      → served_by config infos (asked_from config packet a) taking refusing
      ≡ served_by config infos (asked_from config packet b) taking refusing
  by_doors (Some d) refusing e f =
      let same = offer_alike d (taking_fits d e) in
      λ j. Some (Opens (counts_alike d (offer_of config (asked_from config packet a) d)
      (offer_of config (asked_from config packet b) d) same j) d (same j))
  by_doors None (Some d) e f =
      let same = admitted_alike d (refusing_fits config infos (asked_from config packet a) d f) in
      λ j. Some (Closes (verdict_untaken
      (filtered_alike config a b alike.cluster alike.own infos packet j)) (cause_alike d same j)
      d)
  by_doors None None e f = refl

  served_same : served_of config infos (asked_from config packet a)
      ≡ served_of config infos (asked_from config packet b)
  served_same =
      by_doors (taking_door config infos (asked_from config packet a))
      (refusing_door config infos (asked_from config packet a)) refl refl
      ∙ (λ j. served_by config infos (asked_from config packet b) (taking_alike j)
      (refusing_alike j))

pub served_alike : ServedAlike
served_alike config infos packet a b h =
    served_same config infos packet a b (from_kind config (asked_of config infos packet) a b h)
