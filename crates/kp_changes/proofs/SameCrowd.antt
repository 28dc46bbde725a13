-- The doors at a destination are found among the ports that may be there, and a line tells of the
-- others.
use Rattle.std.proofs.Common.{◌≡◌, ℕ, ◌-◌, ◌==◌, ◌&&◌, ◌||◌, Bool, true, false, true≢false, cond, not, List, [], ◌∷◌, ◌++◌, map, filter, filter_map, flat_map, length, take, Contains, Option, Some, None, option_and_then, option_map, refl, sym, ap, ◌∙◌, bytes_eq, append-nil}
use Rattle.std.specs.List.{cons_option, find, list_any}
use Rattle.std.specs.Option.{option_eq, option_to_list}
use Rattle.std.specs.Ordering.{eq_by_cmp}
use Rattle.std.specs.FinMap as finite
use Rattle.std.specs.FinMap.{get}
use Rattle.std.specs.Cmp.{eq_by_cmp_equiv, nat_eq_equiv}
use Rattle.std.proofs.lemmas.Bool.{and_from, and_parts, or_parts, or_right, false_from_ne_true}
use Rattle.std.proofs.lemmas.Grind.{flat_map-append}
use Rattle.std.proofs.lemmas.List.{length-map, take-map}
use Rattle.std.proofs.lemmas.List.Folds.{flat_map-map, list_any-append}
use Rattle.std.proofs.lemmas.Map.Views.{exact_unsigned_eq}
use Rattle.std.proofs.lemmas.Slice.Eq.{bytes_eq-Decides}
use Rattle.kp_lemmas.proofs.Equality.{options_exact}
use Rattle.kp_lemmas.proofs.Members.{any_from, in_filter, in_flat_map, in_map}
use Rattle.kp_lemmas.proofs.Orders.{tie_of_itself}
use Rattle.kp_base.specs.Keys.{port_key_cmp}
use Rattle.kp_base.specs.Net.{AddressParts, same_address}
use Rattle.kp_base.specs.contracts.address.AddressPartialEq.TheImpl as address_eq
use Rattle.kp_base.specs.contracts.key.PortKeyPartialEq.TheImpl as key_eq
use Rattle.kp_base.specs.declared.address.Family.{Family}
use Rattle.kp_base.specs.declared.key.PortKey.{PortKey}
use Rattle.kp_base.specs.declared.port.Proto.{Proto}
use Rattle.kp_base.specs.declared.port.Proto.TheVariants.{Sctp, Tcp, Udp}
use Rattle.kp_base.proofs.KeyOrder.{key_total, key_exact, port_key_ties, port_key_total}
use Rattle.kp_base.proofs.SameParts.{address_itself, address_test_exact, same_proto_exact}
use Rattle.kp_types.specs.Ports.{is_port, same_proto}
use Rattle.kp_types.specs.Setting.{FamilyConfig}
use Rattle.kp_types.specs.contracts.decision.DoorKindPartialEq.TheImpl as kind_eq
use Rattle.kp_types.specs.declared.decision.DoorKind.{DoorKind}
use Rattle.kp_types.specs.declared.decision.DoorKind.TheVariants as door
use Rattle.kp_types.specs.declared.packet.Origin.TheVariants as origin
use Rattle.kp_types.specs.declared.packet.Packet.{Packet}
use Rattle.kp_types.specs.declared.service.Service.{Service}
use Rattle.kp_types.specs.declared.service.ServicePort.{ServicePort}
use Rattle.kp_object_defs.specs.Entries.{sources_of}
use Rattle.kp_object_defs.specs.Objects.{Objects, zone_of}
use Rattle.kp_object_defs.specs.Order.{distinct_in_order}
use Rattle.kp_object_defs.specs.OwnKeys.{AreUnderOwnKeys}
use Rattle.kp_object_defs.specs.PortByKey.{info_at, info_in, port_keys_of, port_named}
use Rattle.kp_object_defs.specs.PortInfo.{PortInfo, has_node_port, info_of, port_infos, port_key_of}
use Rattle.kp_object_laws.proofs.OwnEntries.{found_in}
use Rattle.kp_object_laws.proofs.OwnKeys.{found_in_values}
use Rattle.kp_object_laws.proofs.PortByKey.{info_has_key, infos_by_keys, sources_service}
use Rattle.kp_history_laws.specs.EventLaws.{has_port}
use Rattle.kp_door_defs.specs.Doors.{Door, address_doors, door_at, doors_of, fits, node_door}
use Rattle.kp_store.specs.Destinations.{answers, is_address_of, is_node_port, port_answers}
use Rattle.kp_decide.proofs.Missed.{Shows, misses_addresses, shown_of}
use Rattle.kp_change_defs.specs.ChangeText.{besides_text, doors_beside, is_beside, more_text}
use Rattle.kp_change_defs.specs.DoorChanges.{same_destination}
use Rattle.kp_change_laws.proofs.DoorKinds.{found}
use Rattle.kp_changes.specs.Bare.{without_lists}
use Rattle.kp_changes.specs.Beside.{address_or, bare_infos_at, may_be_at, names_at, names_in, target_of}
use Rattle.kp_changes.specs.Neighbours.{crowd_text, destination_of, is_at, is_other, is_same, neighbour_of, neighbour_text, neighbours_at}
use Rattle.kp_changes.specs.declared.neighbour.Destination.{Destination}
use Rattle.kp_changes.specs.declared.neighbour.Neighbour.{Neighbour}
use Rattle.kp_changes.proofs.Pieces.{alike, inner, passed}
use Rattle.kp_port_by_key.proofs.Sparse.{sparse, told_in}

-- a protocol is itself
proto_itself : (p : Proto) → same_proto p p ≡ true
proto_itself Sctp = refl
proto_itself Tcp = refl
proto_itself Udp = refl

-- ---- A port that may not be there

module _ (here : Family) (d : Door) where
  abbrev there : Destination
  there = destination_of here d

  -- a packet to its destination
  abbrev packet : Packet
  packet = record {
    from = origin.Wire;
    source = target_of d;
    target = target_of d;
    proto = d.info.key.proto;
    port = d.number;
    now = 0;
  }

  -- a port answers there
  abbrev port_there : Service → ServicePort → Bool
  port_there = port_answers d.info.key.proto (target_of d) d.number

  record HasPlace (i : PortInfo) (a : Option AddressParts) (n : ℕ) : Type 0 where
    proto : d.info.key.proto ≡ i.key.proto
    address : d.address ≡ a
    number : d.number ≡ n

  -- a door at its destination has its protocol, its address and its number
  place_of : (e : Door) → is_at there e ≡ true → HasPlace e.info e.address e.number
  place_of e h =
      let both =
      and_parts (same_proto d.info.key.proto e.info.key.proto) (same_destination d e) h in
      let place =
      and_parts (option_eq address_eq.ghosts.eq d.address e.address)
      (d.number == e.number) both.1 in
      record {
        proto = same_proto_exact d.info.key.proto e.info.key.proto both.0;
        address = options_exact _ address_test_exact d.address e.address place.0;
        number = exact_unsigned_eq d.number e.number place.1;
      }

  -- what is made of the doors there
  module _ (make : Neighbour → List Neighbour) where
    abbrev told : Door → List Neighbour
    told e = cond (is_at there e) (make (neighbour_of e)) []

    abbrev at_addresses : PortInfo → List Neighbour
    at_addresses i = flat_map told (address_doors i)

    abbrev at_node : PortInfo → List Neighbour
    at_node i = flat_map told (node_door i i.node_port)

    -- nothing, where nothing is made of the doors of a port
    record IsElsewhere (i : PortInfo) : Type 0 where
      addresses : at_addresses i ≡ []
      node : at_node i ≡ []

  module _ (make : Neighbour → List Neighbour) (config : FamilyConfig) (family : Family) (s : Service)
      (p : ServicePort) (i : PortInfo) (shows : Shows family s p i)
      (miss : port_there s p ≡ false) where
    abbrev fitting : Door → Bool
    fitting = fits config.addresses packet

    -- the packet fits each door at an address that is there
    fits_there : (kind : DoorKind) (a : AddressParts) → is_at there (door_at kind i a) ≡ true
        → fitting (door_at kind i a) ≡ true
    fits_there kind a h =
        let place = place_of (door_at kind i a) h in
        and_from _ _ (and_from _ _
        (ap (λ q. same_proto q d.info.key.proto) (sym place.proto) ∙ proto_itself d.info.key.proto)
        (ap (λ n. n == d.number) (sym place.number) ∙ nat_eq_equiv.refl d.number))
        (ap (λ o. same_address a (address_or d.info.address o)) place.address ∙ address_itself a)

    untold : (kind : DoorKind) (a : AddressParts) → fitting (door_at kind i a) ≡ false
        → told make (door_at kind i a) ≡ []
    untold kind a h =
        ap (λ b. cond b (make (neighbour_of (door_at kind i a))) [])
        (false_from_ne_true (is_at there (door_at kind i a)) (λ here_too.
        true≢false (sym (fits_there kind a here_too) ∙ h)))

    untold_all : (kind : DoorKind) (xs : List AddressParts)
        → list_any fitting (map (door_at kind i) xs) ≡ false
        → flat_map (told make) (map (door_at kind i) xs) ≡ []
    untold_all kind [] h = refl
    untold_all kind (a ∷ xs) h =
        let parts =
        or_parts (fitting (door_at kind i a)) (list_any fitting (map (door_at kind i) xs)) h in
        λ j. untold kind a parts.0 j ++ untold_all kind xs parts.1 j

    none_at_addresses : at_addresses make i ≡ []
    none_at_addresses =
        let external = map (door_at door.External i) i.external in
        let balancer = map (door_at door.Balancer i) i.balancer in
        let parts =
        or_parts (fitting (door_at door.Cluster i i.address))
        (list_any fitting (external ++ balancer))
        (misses_addresses family config packet s p i shows miss) in
        let outer = or_parts (list_any fitting external) (list_any fitting balancer)
        (sym (list_any-append fitting external balancer) ∙ parts.1) in
        (λ j. untold door.Cluster i.address parts.0 j ++ flat_map-append (told make) external balancer j)
        ∙ (λ j. untold_all door.External i.external outer.0 j
        ++ untold_all door.Balancer i.balancer outer.1 j)

    own_node_port : (b : Bool) (own : Option ℕ) (n : ℕ) → cond b own None ≡ Some n → own ≡ Some n
    own_node_port true own n h = h
    own_node_port false own n h = absurd (cc)

    none_at : (own : Option ℕ) → i.node_port ≡ own → flat_map (told make) (node_door i own) ≡ []
    none_at None is = refl
    none_at (Some n) is =
        let e : Door = record { kind = door.Node; info = i; address = None; number = n } in
        ap (λ b. cond b (make (neighbour_of e)) [] ++ [])
        (false_from_ne_true (is_at there e) (λ here_too.
        let place = place_of e here_too in
        let own : p.node_port ≡ Some n =
        own_node_port (has_node_port s.kind) p.node_port n (sym shows.node_port ∙ is) in
        true≢false (sym (and_from (same_proto p.proto d.info.key.proto)
        (((p.port == d.number) && is_address_of (target_of d) s)
        || is_node_port d.number p.node_port)
        (ap (λ q. same_proto q d.info.key.proto) (sym shows.proto ∙ sym place.proto)
        ∙ proto_itself d.info.key.proto)
        (or_right ((p.port == d.number) && is_address_of (target_of d) s)
        (is_node_port d.number p.node_port)
        (ap (is_node_port d.number) own ∙ ap (λ m. m == d.number) (sym place.number)
        ∙ nat_eq_equiv.refl d.number))) ∙ miss)))

    none_at_node : at_node make i ≡ []
    none_at_node = none_at i.node_port refl

-- ---- Ports by their names

module _ (family : Family) (config : FamilyConfig) (o : Objects) (own : AreUnderOwnKeys o)
    (d : Door) where
  abbrev at : Destination
  at = destination_of family d

  -- the Service and the port that something is known of
  record HasPort (key : PortKey) (i : PortInfo) : Type 0 where
    service : Service
    port : ServicePort
    stored : get o.services key.object ≡ Some service
    named : find (is_port key.port_name key.proto) service.ports ≡ Some port
    shows : Shows family service port i

  port_of : (key : PortKey) (i : PortInfo) → info_at family config o key ≡ Some i → HasPort key i
  port_of key i known = of_service (get o.services key.object) refl known
    where
      of_named : (s : Service) → get o.services key.object ≡ Some s → (found : Option ServicePort)
          → find (is_port key.port_name key.proto) s.ports ≡ found
          → option_and_then
          (λ p. info_of family config.node (zone_of o config.node)
          (sources_of family config o s, p)) found ≡ Some i
          → HasPort key i
      of_named s at None named k = absurd (cc)
      of_named s at (Some p) named k = record {
        service = s;
        port = p;
        stored = at;
        named = named;
        shows =
            shown_of family config.node (zone_of o config.node) (sources_of family config o s) s p i
            (sources_service family config o s) k;
      }

      of_service : (found : Option Service) → get o.services key.object ≡ found
          → option_and_then (info_in family config o key) found ≡ Some i → HasPort key i
      of_service None at k = absurd (cc)
      of_service (Some s) at k = of_named s at (port_named key s) refl k

  module _ (key : PortKey) (i : PortInfo) (has : HasPort key i) where
    abbrev this : PortKey
    this = port_key_of has.service has.port

    in_ports : Contains has.service.ports has.port
    in_ports = (found (is_port key.port_name key.proto) has.service.ports has.port has.named).0

    in_services : Contains (finite.values o.services) has.service
    in_services =
        (found_in key_total key_exact (λ (s : Service). s.key) key.object
        (finite.values o.services) has.service
        (found_in_values (λ (s : Service). s.key) o.services own.services key.object
        ∙ has.stored)).0

    is_this : this ≡ key
    is_this =
        let parts =
        and_parts (bytes_eq has.port.name key.port_name) (same_proto has.port.proto key.proto)
        (found (is_port key.port_name key.proto) has.service.ports has.port has.named).1 in
        λ j. record {
          object = own.services key.object has.service has.stored j;
          port_name = (bytes_eq-Decides has.port.name _).0 parts.0 j;
          proto = same_proto_exact has.port.proto key.proto parts.1 j;
        }

    -- a list that has the name of this port
    has_this : (names : List PortKey) → Contains names this → has_port names key ≡ true
    has_this names c =
        any_from (eq_by_cmp port_key_cmp key) this names c
        (ap (eq_by_cmp port_key_cmp key) is_this ∙ tie_of_itself port_key_total key)

    -- it is a port of all Services,
    listed : has_port (flat_map port_keys_of (finite.values o.services)) key ≡ true
    listed =
        has_this (flat_map port_keys_of (finite.values o.services))
        (in_flat_map port_keys_of has.service this (finite.values o.services) in_services
        (in_map (port_key_of has.service) has.port has.service.ports in_ports))

    looser : (a b c : Bool) → (a && b) || c ≡ true → a || c ≡ true
    looser true b c h = refl
    looser false b c h = h

    -- and where it answers there it is among those that may be there
    named_there : port_there family d has.service has.port ≡ true → has_port (names_at o d) key ≡ true
    named_there there =
        let numbers = and_parts (same_proto has.port.proto d.info.key.proto)
        (((has.port.port == d.number) && is_address_of (target_of d) has.service)
        || is_node_port d.number has.port.node_port) there in
        let may : may_be_at d has.port ≡ true =
        and_from (same_proto has.port.proto d.info.key.proto)
        ((has.port.port == d.number) || is_node_port d.number has.port.node_port) numbers.0
        (looser (has.port.port == d.number) (is_address_of (target_of d) has.service)
        (is_node_port d.number has.port.node_port) numbers.1) in
        let may_answer = answers d.info.key.proto (target_of d) d.number in
        has_this (names_at o d)
        (in_flat_map (names_in d) has.service this (filter may_answer (finite.values o.services))
        (in_filter may_answer has.service (finite.values o.services) in_services
        (any_from (port_there family d has.service) has.port has.service.ports in_ports there))
        (in_map (port_key_of has.service) has.port (filter (may_be_at d) has.service.ports)
        (in_filter (may_be_at d) has.port has.service.ports in_ports may)))

  -- nothing is made of a port that isn't among those that may be there
  elsewhere : (make : Neighbour → List Neighbour) (key : PortKey) (i : PortInfo)
      → has_port (names_at o d) key ≡ false → info_at family config o key ≡ Some i
      → IsElsewhere family d make i
  elsewhere make key i none known =
      let has = port_of key i known in
      let miss : port_there family d has.service has.port ≡ false =
      false_from_ne_true (port_there family d has.service has.port) (λ there.
      true≢false (sym (named_there key i has there) ∙ none)) in
      record {
        addresses =
            none_at_addresses family d make config family has.service has.port i has.shows miss;
        node = none_at_node family d make config family has.service has.port i has.shows miss;
      }

  -- pieces of ports, which don't depend on endpoints, where ports without one of some names have none
  module _ (names : List PortKey) (piece : PortInfo → List Neighbour)
      (bare : (i : PortInfo) → piece (without_lists i) ≡ piece i)
      (empty : (key : PortKey) (i : PortInfo) → has_port names key ≡ false
      → info_at family config o key ≡ Some i → piece i ≡ []) where
    abbrev of_key : PortKey → List Neighbour
    of_key key = flat_map piece (option_to_list (info_at family config o key))

    by_bare : (key : PortKey) → flat_map piece (bare_infos_at family config o key) ≡ of_key key
    by_bare key = by (info_at family config o key)
      where
        by : (known : Option PortInfo)
            → flat_map piece (option_to_list (option_map without_lists known))
            ≡ flat_map piece (option_to_list known)
        by None = refl
        by (Some i) = ap (λ l. l ++ []) (bare i)

    by_keys : (keys : List PortKey) → flat_map piece (filter_map (info_at family config o) keys)
        ≡ flat_map of_key keys
    by_keys [] = refl
    by_keys (key ∷ keys) = by (info_at family config o key) (by_keys keys)
      where
        by : (known : Option PortInfo) → flat_map piece (filter_map (info_at family config o) keys)
            ≡ flat_map of_key keys
            → flat_map piece (cons_option known (filter_map (info_at family config o) keys))
            ≡ flat_map piece (option_to_list known) ++ flat_map of_key keys
        by None rest = rest
        by (Some i) rest = λ j. sym (append-nil (piece i)) j ++ rest j

    unnamed : (key : PortKey) → has_port names key ≡ false → of_key key ≡ []
    unnamed key none = by (info_at family config o key) refl
      where
        by : (known : Option PortInfo) → info_at family config o key ≡ known
            → flat_map piece (option_to_list known) ≡ []
        by None is = refl
        by (Some i) is = ap (λ l. l ++ []) (empty key i none is)

    abbrev all_names : List PortKey
    all_names = flat_map port_keys_of (finite.values o.services)

    unknown : (key : PortKey) → has_port all_names key ≡ false → of_key key ≡ []
    unknown key none = by (info_at family config o key) refl
      where
        by : (known : Option PortInfo) → info_at family config o key ≡ known
            → flat_map piece (option_to_list known) ≡ []
        by None is = refl
        by (Some i) is = absurd (true≢false (sym (listed key i (port_of key i is)) ∙ none))

    same_pieces :
        flat_map piece
        (flat_map (bare_infos_at family config o) (distinct_in_order port_key_cmp names))
        ≡ flat_map piece (port_infos family config o)
    same_pieces =
        inner piece (bare_infos_at family config o) (distinct_in_order port_key_cmp names)
        ∙ alike _ of_key by_bare (distinct_in_order port_key_cmp names)
        ∙ sparse of_key names all_names (λ key tells.
        told_in of_key names key (unnamed key) tells
        ∙ sym (told_in of_key all_names key (unknown key) tells))
        ∙ sym (by_keys (distinct_in_order port_key_cmp all_names))
        ∙ ap (flat_map piece) (sym (infos_by_keys family config o own))

  -- ---- What is made of the doors at a destination

  module _ (make : Neighbour → List Neighbour) where
    bare_addresses : (i : PortInfo)
        → at_addresses family d make (without_lists i) ≡ at_addresses family d make i
    bare_addresses i =
        ap (λ l. told family d make (door_at door.Cluster i i.address) ++ l)
        (spread (without_lists i) ∙ sym (spread i))
      where
        spread : (j : PortInfo)
            → flat_map (told family d make)
            (map (door_at door.External j) j.external ++ map (door_at door.Balancer j) j.balancer)
            ≡ flat_map (λ a. told family d make (door_at door.External j a)) j.external
            ++ flat_map (λ a. told family d make (door_at door.Balancer j a)) j.balancer
        spread j =
            flat_map-append (told family d make) (map (door_at door.External j) j.external)
            (map (door_at door.Balancer j) j.balancer)
            ∙ (λ t. flat_map-map (told family d make) (door_at door.External j) j.external t
            ++ flat_map-map (told family d make) (door_at door.Balancer j) j.balancer t)

    bare_node : (i : PortInfo)
        → at_node family d make (without_lists i) ≡ at_node family d make i
    bare_node i = by i.node_port
      where
        by : (number : Option ℕ) → flat_map (told family d make) (node_door (without_lists i) number)
            ≡ flat_map (told family d make) (node_door i number)
        by None = refl
        by (Some n) = refl

    by_pieces : (infos : List PortInfo) → flat_map make (neighbours_at at (doors_of infos))
        ≡ flat_map (at_addresses family d make) infos ++ flat_map (at_node family d make) infos
    by_pieces infos =
        flat_map-map make neighbour_of (filter (is_at at) (doors_of infos))
        ∙ passed (is_at at) (λ e. make (neighbour_of e)) (doors_of infos)
        ∙ flat_map-append (told family d make) (flat_map address_doors infos)
        (flat_map (λ i. node_door i i.node_port) infos)
        ∙ (λ j. inner (told family d make) address_doors infos j
        ++ inner (told family d make) (λ i. node_door i i.node_port) infos j)

    -- it is made of the doors of ports of names, where nothing is made of other ports
    by_names : (names : List PortKey)
        → ((key : PortKey) (i : PortInfo) → has_port names key ≡ false
        → info_at family config o key ≡ Some i → IsElsewhere family d make i)
        → flat_map make (neighbours_at at (doors_of
        (flat_map (bare_infos_at family config o) (distinct_in_order port_key_cmp names))))
        ≡ flat_map make (neighbours_at at (doors_of (port_infos family config o)))
    by_names names elsewhere_of =
        by_pieces (flat_map (bare_infos_at family config o)
        (distinct_in_order port_key_cmp names))
        ∙ (λ j. same_pieces names (at_addresses family d make) bare_addresses
        (λ key i none is. (elsewhere_of key i none is).addresses) j
        ++ same_pieces names (at_node family d make) bare_node
        (λ key i none is. (elsewhere_of key i none is).node) j)
        ∙ sym (by_pieces (port_infos family config o))

  -- ---- All of them

  singly : (crowd : List Neighbour) → flat_map (λ n. n ∷ []) crowd ≡ crowd
  singly [] = refl
  singly (n ∷ crowd) = ap (λ l. n ∷ l) (singly crowd)

  pub crowd :
      neighbours_at at (doors_of
      (flat_map (bare_infos_at family config o) (distinct_in_order port_key_cmp (names_at o d))))
      ≡ neighbours_at at (doors_of (port_infos family config o))
  crowd =
      sym (singly _)
      ∙ by_names (λ n. n ∷ []) (names_at o d) (elsewhere (λ n. n ∷ []))
      ∙ singly _

  -- ---- Those that are the same as the door

  abbrev own_of : Neighbour → List Neighbour
  own_of n = cond (is_same d n) (n ∷ []) []

  module _ (i : PortInfo) (other : key_eq.ghosts.eq d.info.key i.key ≡ false) where
    -- a door of another port isn't the same
    not_told : (e : Door) → e.info ≡ i → told family d own_of e ≡ []
    not_told e of =
        ap (λ b. cond (is_at at e)
        (cond (b && kind_eq.ghosts.eq d.kind e.kind) (neighbour_of e ∷ []) []) [])
        (ap (λ (j : PortInfo). key_eq.ghosts.eq d.info.key j.key) of ∙ other)
        ∙ by (is_at at e)
      where
        by : (b : Bool) → cond {A = List Neighbour} b [] [] ≡ []
        by true = refl
        by false = refl

    none_told : (kind : DoorKind) (xs : List AddressParts)
        → flat_map (told family d own_of) (map (door_at kind i) xs) ≡ []
    none_told kind [] = refl
    none_told kind (a ∷ xs) = λ j. not_told (door_at kind i a) refl j ++ none_told kind xs j

    not_own : IsElsewhere family d own_of i
    not_own = record {
      addresses =
          (λ j. not_told (door_at door.Cluster i i.address) refl j
          ++ flat_map-append (told family d own_of) (map (door_at door.External i) i.external)
          (map (door_at door.Balancer i) i.balancer) j)
          ∙ (λ j. none_told door.External i.external j ++ none_told door.Balancer i.balancer j);
      node = by i.node_port;
    }
      where
        by : (number : Option ℕ) → flat_map (told family d own_of) (node_door i number) ≡ []
        by None = refl
        by (Some n) =
            ap (λ l. l ++ [])
            (not_told (record { kind = door.Node; info = i; address = None; number = n }) refl)

  -- a port of another name is another one
  elsewhere_named : (key : PortKey) (i : PortInfo) → has_port (d.info.key ∷ []) key ≡ false
      → info_at family config o key ≡ Some i → IsElsewhere family d own_of i
  elsewhere_named key i none is =
      not_own i
      (port_key_ties d.info.key i.key
      ∙ (eq_by_cmp_equiv port_key_total).symm d.info.key i.key
      ∙ ap (λ k. eq_by_cmp port_key_cmp k d.info.key) (info_has_key family config o key i own is)
      ∙ (or_parts (eq_by_cmp port_key_cmp key d.info.key) false none).0)

  pub own_doors :
      filter (is_same d) (neighbours_at at (doors_of
      (flat_map (bare_infos_at family config o) (d.info.key ∷ []))))
      ≡ filter (is_same d) (neighbours_at at (doors_of (port_infos family config o)))
  own_doors =
      sym (made_own _) ∙ by_names own_of (d.info.key ∷ []) elsewhere_named ∙ made_own _
    where
      made_own : (ns : List Neighbour) → flat_map own_of ns ≡ filter (is_same d) ns
      made_own ns = sym (passed (is_same d) (λ n. n ∷ []) ns) ∙ singly (filter (is_same d) ns)

-- ---- The others

module _ (family : Family) (d : Door) where
  abbrev here_at : Destination
  here_at = destination_of family d

  -- the doors beside a door are those at its destination that aren't the same
  others : (ds : List Door) → map neighbour_of (filter (is_beside d) ds)
      ≡ filter (is_other d) (neighbours_at here_at ds)
  others [] = refl
  others (e ∷ ds) =
      by (same_proto d.info.key.proto e.info.key.proto) (same_destination d e)
      (key_eq.ghosts.eq d.info.key e.info.key) (kind_eq.ghosts.eq d.kind e.kind) (others ds)
      ∙ sym (next (is_at here_at e))
    where
      beside : List Door
      beside = filter (is_beside d) ds

      rest_of : List Neighbour
      rest_of = filter (is_other d) (neighbours_at here_at ds)

      next : (b : Bool)
          → filter (is_other d)
          (map neighbour_of (cond b (e ∷ filter (is_at here_at) ds) (filter (is_at here_at) ds)))
          ≡ cond b (cond (is_other d (neighbour_of e)) (neighbour_of e ∷ rest_of) rest_of) rest_of
      next true = refl
      next false = refl

      by : (proto place key kind : Bool) → map neighbour_of beside ≡ rest_of
          → map neighbour_of
          (cond (proto && place && not (key && (kind && place))) (e ∷ beside) beside)
          ≡ cond (proto && place) (cond (not (key && kind)) (neighbour_of e ∷ rest_of) rest_of)
          rest_of
      by false place key kind same = same
      by true false key kind same = same
      by true true false kind same = ap (λ ns. neighbour_of e ∷ ns) same
      by true true true false same = ap (λ ns. neighbour_of e ∷ ns) same
      by true true true true same = same

  -- what a line tells of them
  pub told_of_crowd : (infos : List PortInfo)
      → crowd_text d (neighbours_at here_at (doors_of infos)) ≡ besides_text infos d
  told_of_crowd infos =
      let beside : List Door = doors_beside infos d in
      ap (λ ns. flat_map neighbour_text (take 3 ns) ++ more_text (length ns - 3))
      (sym (others (doors_of infos)))
      ∙ (λ j. (ap (flat_map neighbour_text) (take-map neighbour_of 3 beside)
      ∙ flat_map-map neighbour_text neighbour_of (take 3 beside)) j
      ++ more_text (length-map beside neighbour_of j - 3))
