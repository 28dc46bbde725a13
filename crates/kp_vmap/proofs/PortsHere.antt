-- The ports with a door at a packet's destination are enough to decide it.
use Rattle.std.proofs.Common.{◌≡◌, ◌==◌, ◌&&◌, ◌||◌, Bool, true, false, true≢false, List, [], ◌∷◌}
use Rattle.std.proofs.Common.{◌++◌, map, filter, filter_map, flat_map, Option, Some, None, is_some}
use Rattle.std.proofs.Common.{refl, sym, ap, subst, ◌∙◌, arith}
use Rattle.std.specs.List.{list_any}
use Rattle.std.specs.Ordering.{eq_by_cmp}
use Rattle.std.proofs.lemmas.Bool.{and_parts, or_from, or_left, or_parts, or_right}
use Rattle.std.proofs.lemmas.Bool.{false_from_ne_true}
use Rattle.std.proofs.lemmas.Bool.Decides.{nat_tests}
use Rattle.std.proofs.lemmas.List.Folds.{list_any-append}
use Rattle.std.proofs.lemmas.Option.{same_Some}
use Rattle.kp_lemmas.proofs.Members.{none_passes}
use Rattle.kp_lemmas.proofs.Orders.{tie_of_itself}
use Rattle.kp_base.specs.Net.{AddressParts}
use Rattle.kp_base.proofs.SameParts.{same_address_exact, same_proto_exact}
use Rattle.kp_types.specs.Ports.{same_proto}
use Rattle.kp_types.specs.Setting.{FamilyConfig}
use Rattle.kp_types.specs.declared.packet.Packet.{Packet}
use Rattle.kp_types.specs.declared.decision.DoorKind.TheVariants as door
use Rattle.kp_object_defs.specs.Desired.{is_empty}
use Rattle.kp_object_defs.specs.PortInfo.{PortInfo, external_list, internal_list}
use Rattle.kp_door_defs.specs.Doors.{Door, address_doors, door_at, fits, is_at, node_door}
use Rattle.kp_door_defs.specs.Filter.{DropsClosed, Forward, Hook, Input, Line, Output, Refusal}
use Rattle.kp_door_defs.specs.Filter.{external_lines, firewall_lines, hook_lines, hooks_of, line_of}
use Rattle.kp_door_defs.specs.Filter.{refusal_by, service_lines}
use Rattle.kp_decide.specs.Enough.{AreEnough}
use Rattle.kp_decide.specs.Findings.{fitting_doors}
use Rattle.kp_decide.proofs.FittingDoors.{same_taking}
use Rattle.kp_decide.proofs.Passing.{narrowed, none_both, none_left, none_mapped, none_used}
use Rattle.kp_decide.proofs.Passing.{same_append, same_found}
use Rattle.kp_vmap_defs.proofs.Destinations.{destination_total}
use Rattle.kp_vmap_defs.specs.VerdictMap.{destination_cmp, destination_of, map_door}
use Rattle.kp_vmap_defs.specs.declared.door.Destination.{Destination}
use Rattle.kp_vmap.specs.Here.{at_address, at_node, is_here}
use Rattle.kp_vmap.specs.Places.{stands_at}

-- parts of a list that gives nothing
left_none : {A : Type 0} (p : A → Bool) (xs ys : List A) → list_any p (xs ++ ys) ≡ false
    → (list_any p xs ≡ false) × (list_any p ys ≡ false)
left_none p xs ys h = or_parts (list_any p xs) (list_any p ys) (sym (list_any-append p xs ys) ∙ h)

unmapped : {A B : Type 0} (p : B → Bool) (f : A → B) (xs : List A) → list_any p (map f xs) ≡ false
    → list_any (λ x. p (f x)) xs ≡ false
unmapped p f [] h = refl
unmapped p f (x ∷ xs) h =
    let parts = or_parts (p (f x)) (list_any p (map f xs)) h in
    or_from (p (f x)) (list_any (λ y. p (f y)) xs) parts.0 (unmapped p f xs parts.1)

module _ (config : FamilyConfig) (packet : Packet) where
  abbrev fitting : Door → Bool
  fitting d = fits config.addresses packet d

  abbrev ties : Destination → Door → Bool
  ties at d = eq_by_cmp destination_cmp at (destination_of (map_door d))

  -- a door that a packet fits stands at one of its destinations
  same_place : (d : Door) (target : Option AddressParts) (at : Destination) → d.address ≡ target
      → at ≡ record { target = target; proto = packet.proto; port = packet.port }
      → same_proto d.info.key.proto packet.proto ≡ true → (d.number == packet.port) ≡ true
      → ties at d ≡ true
  same_place d target at is place proto number =
      let one : destination_of (map_door d) ≡ at =
      (λ i. record { target = is i; proto = same_proto_exact d.info.key.proto packet.proto proto i; port = same_number i })
      ∙ sym place in
      ap (λ e. eq_by_cmp destination_cmp at e) one ∙ tie_of_itself destination_total at
    where
      same_number : d.number ≡ packet.port
      same_number = grind (arith, nat_tests, number)

  stands_somewhere : (d : Door) (target : Option AddressParts) → d.address ≡ target
      → fitting d ≡ true
      → ties (at_address packet) d || ties (at_node packet) d ≡ true
  stands_somewhere d (Some a) is h =
      let parts = and_parts (same_proto d.info.key.proto packet.proto && (d.number == packet.port))
      (is_at d.info.address.family config.addresses d.address packet.target) h in
      let inner = and_parts (same_proto d.info.key.proto packet.proto)
      (d.number == packet.port) parts.0 in
      let same : a ≡ packet.target = same_address_exact a packet.target
      (sym (ap (λ t. is_at d.info.address.family config.addresses t packet.target) is) ∙ parts.1) in
      or_left (ties (at_address packet) d) (ties (at_node packet) d)
      (same_place d (Some packet.target) (at_address packet)
      (is ∙ ap Some same) refl inner.0 inner.1)
  stands_somewhere d None is h =
      let parts = and_parts (same_proto d.info.key.proto packet.proto && (d.number == packet.port))
      (is_at d.info.address.family config.addresses d.address packet.target) h in
      let inner = and_parts (same_proto d.info.key.proto packet.proto)
      (d.number == packet.port) parts.0 in
      or_right (ties (at_address packet) d) (ties (at_node packet) d)
      (same_place d None (at_node packet) is refl inner.0 inner.1)

  none_fits : (ds : List Door) → list_any (ties (at_address packet)) ds ≡ false
      → list_any (ties (at_node packet)) ds ≡ false → list_any fitting ds ≡ false
  none_fits [] f g = refl
  none_fits (d ∷ ds) f g =
      let here = or_parts (ties (at_address packet) d) (list_any (ties (at_address packet)) ds) f in
      let node = or_parts (ties (at_node packet) d) (list_any (ties (at_node packet)) ds) g in
      or_from (fitting d) (list_any fitting ds)
      (false_from_ne_true (fitting d) (λ h.
      true≢false
      (sym (stands_somewhere d d.address refl h)
      ∙ or_from (ties (at_address packet) d) (ties (at_node packet) d) here.0 node.0)))
      (none_fits ds here.1 node.1)

  -- ---- a port that the packet can't be for gives nothing

  module _ (i : PortInfo) (missed : is_here packet i ≡ false) where
    abbrev all_doors : List Door
    all_doors = address_doors i ++ node_door i i.node_port

    no_door : list_any fitting all_doors ≡ false
    no_door =
        let parts = or_parts (stands_at (at_address packet) i)
        (stands_at (at_node packet) i) missed in
        none_fits all_doors
        (unmapped
        (λ e. eq_by_cmp destination_cmp (at_address packet)
        (destination_of e)) map_door all_doors parts.0)
        (unmapped
        (λ e. eq_by_cmp destination_cmp (at_node packet)
        (destination_of e)) map_door all_doors parts.1)

    pub at_addresses : list_any fitting (address_doors i) ≡ false
    at_addresses = (left_none fitting (address_doors i) (node_door i i.node_port) no_door).0

    pub at_node_port : list_any fitting (node_door i i.node_port) ≡ false
    at_node_port = (left_none fitting (address_doors i) (node_door i i.node_port) no_door).1

    abbrev outer_parts : (fitting (door_at door.Cluster i i.address) ≡ false)
        × (list_any fitting
        (map (door_at door.External i) i.external ++ map (door_at door.Balancer i) i.balancer)
        ≡ false)
    outer_parts =
        or_parts (fitting (door_at door.Cluster i i.address))
        (list_any fitting
        (map (door_at door.External i) i.external
        ++ map (door_at door.Balancer i) i.balancer)) at_addresses

    abbrev balancer_part : list_any fitting (map (door_at door.Balancer i) i.balancer) ≡ false
    balancer_part =
        (left_none fitting (map (door_at door.External i) i.external)
        (map (door_at door.Balancer i) i.balancer) outer_parts.1).1

    lined : (refusal : Refusal) (ds : List Door) → list_any fitting ds ≡ false
        → list_any (λ (l : Line). fitting l.door) (map (line_of refusal) ds) ≡ false
    lined refusal ds h =
        none_mapped (λ (l : Line). fitting l.door) (line_of refusal) ds
        (λ d c. none_passes fitting d ds h c)

    none_fitting : (xs : List Line) → list_any (λ (l : Line). fitting l.door) xs ≡ false
        → filter (λ (l : Line). fitting l.door) xs ≡ []
    none_fitting xs h = none_left (λ (l : Line). fitting l.door) xs h

    pub no_firewall : filter (λ (l : Line). fitting l.door) (firewall_lines i) ≡ []
    no_firewall =
        none_fitting (firewall_lines i)
        (none_used (λ (l : Line). fitting l.door) (is_some i.ranges && i.lists.has_any)
        (map (λ a. line_of DropsClosed (door_at door.Balancer i a)) i.balancer)
        (none_mapped (λ (l : Line). fitting l.door)
        (λ a. line_of DropsClosed (door_at door.Balancer i a)) i.balancer
        (λ a c. none_passes (λ b. fitting (door_at door.Balancer i b)) a i.balancer
        (unmapped fitting (door_at door.Balancer i) i.balancer balancer_part) c)))

    pub no_external : filter (λ (l : Line). fitting l.door) (external_lines i) ≡ []
    no_external =
        let doors = map (door_at door.External i) i.external
        ++ map (door_at door.Balancer i) i.balancer ++ node_door i i.node_port in
        none_fitting (external_lines i)
        (none_used (λ (l : Line). fitting l.door) (is_empty (external_list i))
        (map (line_of (refusal_by i.lists.has_any)) doors)
        (lined (refusal_by i.lists.has_any) doors
        (none_both fitting
        (map (door_at door.External i) i.external ++ map (door_at door.Balancer i) i.balancer)
        (node_door i i.node_port)
        outer_parts.1 at_node_port)))

    pub no_service : filter (λ (l : Line). fitting l.door) (service_lines i) ≡ []
    no_service =
        none_fitting (service_lines i)
        (none_used (λ (l : Line). fitting l.door) (is_empty (internal_list i))
        (line_of (refusal_by i.lists.has_any) (door_at door.Cluster i i.address) ∷ [])
        (or_from (fitting (door_at door.Cluster i i.address)) false outer_parts.0 refl))

  -- ---- and so such ports may be left out

  module _ (all : List PortInfo) where
    abbrev here : List PortInfo
    here = filter (is_here packet) all

    themselves : {A : Type 0} (xs : List A) → filter_map (λ x. Some x) xs ≡ xs
    themselves [] = refl
    themselves (x ∷ xs) = ap (λ rest. x ∷ rest) (themselves xs)

    same_passing : {D : Type 0} (p : D → Bool) (f : PortInfo → List D)
        → ((i : PortInfo) → is_here packet i ≡ false → filter p (f i) ≡ [])
        → filter p (flat_map f here) ≡ filter p (flat_map f all)
    same_passing p f none =
        ap (λ is. filter p (flat_map f is)) (sym (themselves here))
        ∙ narrowed p f (λ i. Some i) (is_here packet)
        (λ i j misses is. subst (λ k. filter p (f k) ≡ []) (same_Some i j is) (none i misses)) all
        ∙ ap (λ is. filter p (flat_map f is)) (themselves all)

    abbrev fit : Line → Bool
    fit l = fitting l.door

    firewalls : filter fit (flat_map firewall_lines here) ≡ filter fit (flat_map firewall_lines all)
    firewalls = same_passing fit firewall_lines no_firewall

    externals : filter fit (flat_map external_lines here) ≡ filter fit (flat_map external_lines all)
    externals = same_passing fit external_lines no_external

    services : filter fit (flat_map service_lines here) ≡ filter fit (flat_map service_lines all)
    services = same_passing fit service_lines no_service

    from_outside : filter fit (flat_map firewall_lines here ++ flat_map external_lines here)
        ≡ filter fit (flat_map firewall_lines all ++ flat_map external_lines all)
    from_outside =
        same_append fit (flat_map firewall_lines here) (flat_map external_lines here)
        (flat_map firewall_lines all) (flat_map external_lines all) firewalls externals

    at_hook : (h : Hook) → filter fit (hook_lines h here) ≡ filter fit (hook_lines h all)
    at_hook Input = from_outside
    at_hook Forward =
        same_append fit (flat_map firewall_lines here ++ flat_map external_lines here)
        (flat_map service_lines here)
        (flat_map firewall_lines all ++ flat_map external_lines all)
        (flat_map service_lines all) from_outside services
    at_hook Output =
        same_append fit (flat_map firewall_lines here) (flat_map service_lines here)
        (flat_map firewall_lines all) (flat_map service_lines all) firewalls services

    at_hooks : (hs : List Hook) → filter fit (flat_map (λ h. hook_lines h here) hs)
        ≡ filter fit (flat_map (λ h. hook_lines h all) hs)
    at_hooks [] = refl
    at_hooks (h ∷ hs) =
        same_append fit (hook_lines h here) (flat_map (λ h. hook_lines h here) hs)
        (hook_lines h all) (flat_map (λ h. hook_lines h all) hs)
        (at_hook h) (at_hooks hs)

    same_fitting : fitting_doors config here packet ≡ fitting_doors config all packet
    same_fitting =
        same_append fitting (flat_map address_doors here)
        (flat_map (λ i. node_door i i.node_port) here)
        (flat_map address_doors all) (flat_map (λ i. node_door i i.node_port) all)
        (same_passing fitting address_doors
        (λ i m. none_left fitting (address_doors i) (at_addresses i m)))
        (same_passing fitting (λ i. node_door i i.node_port)
        (λ i m. none_left fitting (node_door i i.node_port) (at_node_port i m)))

    pub enough : AreEnough config packet here all
    enough = record {
      fitting = same_fitting;
      door = same_taking config packet here all same_fitting;
      line =
          same_found fit (flat_map (λ h. hook_lines h here) (hooks_of config packet))
          (flat_map (λ h. hook_lines h all) (hooks_of config packet))
          (at_hooks (hooks_of config packet));
    }
