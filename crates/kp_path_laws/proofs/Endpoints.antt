-- The endpoints of a port: those that are reached, and the others.
use Rattle.std.proofs.Common.{◌≡◌, inl, inr, Bool, true, false, not, ◌||◌, cond, List, [], ◌∷◌, ◌++◌, map, Contains, Option, Some, None, is_some, option_map, filter, flat_map, refl, sym, ap, subst, ◌∙◌}
use Rattle.std.specs.Cmp.{nat_eq_equiv}
use Rattle.std.specs.Prelude.{IsPermutation}
use Rattle.std.specs.FinMap.{get}
use Rattle.std.specs.List.{find, list_all, list_any}
use Rattle.std.specs.Ordering.{is_lt}
use Rattle.std.proofs.lemmas.Bool.{and_from, and_parts, eqb-true}
use Rattle.std.proofs.lemmas.List.Elements.{Contains-append_left, Contains-append_right, Contains-append_cases}
use Rattle.std.proofs.lemmas.List.Sorted.{IsPermutation-filter_both}
use Rattle.std.proofs.lemmas.Option.{same_Some}
use Rattle.std.proofs.lemmas.Simd.{map-map}
use Rattle.kp_lemmas.proofs.Members.{all_from, any_from, from_all, from_filter, from_filter_map, from_flat_map, from_map, in_cases, in_filter, in_map, none_in, passing}
use Rattle.kp_lemmas.proofs.Options.{from_and_then, from_option_map}
use Rattle.kp_base.specs.Keys.{endpoint_cmp}
use Rattle.kp_base.specs.Net.{AddressParts, is_local_address}
use Rattle.kp_base.specs.declared.address.Family.{Family}
use Rattle.kp_base.specs.declared.key.Endpoint.{Endpoint}
use Rattle.kp_base.specs.declared.key.PortKey.{PortKey}
use Rattle.kp_base.proofs.KeyOrder.{endpoint_total}
use Rattle.kp_base.proofs.SameParts.{address_itself, same_address_exact}
use Rattle.kp_types.specs.Setting.{FamilyConfig, Setting, view_of}
use Rattle.kp_types.specs.declared.decision.ChosenBy.{ChosenBy}
use Rattle.kp_types.specs.declared.decision.ChosenBy.TheVariants.{Affinity, Draws}
use Rattle.kp_types.specs.declared.decision.DoorKind.{DoorKind}
use Rattle.kp_types.specs.declared.decision.DoorKind.TheVariants as door
use Rattle.kp_types.specs.declared.lists.Candidate.{Candidate}
use Rattle.kp_types.specs.declared.packet.Packet.{Packet}
use Rattle.kp_types.specs.declared.service.Policy.{Policy}
use Rattle.kp_types.specs.declared.service.Policy.TheVariants.{Cluster, Local}
use Rattle.kp_types.specs.declared.service.Service.{Service}
use Rattle.kp_types.specs.declared.service.ServicePort.{ServicePort}
use Rattle.kp_choice_defs.specs.Recent.{RecentParts}
use Rattle.kp_object_defs.specs.Entries.{entries_from, sources_of}
use Rattle.kp_object_defs.specs.Objects.{Objects, zone_of}
use Rattle.kp_object_defs.specs.Order.{rises}
use Rattle.kp_object_defs.specs.OwnKeys.{AreUnderOwnKeys}
use Rattle.kp_object_defs.specs.PortByKey.{info_at, info_in, port_keys, port_named}
use Rattle.kp_object_defs.specs.PortInfo.{PortInfo, info_from, info_of, infos_by_family, is_reachable_in, port_infos, port_key_of}
use Rattle.kp_object_laws.specs.ListLaws.{are_in_order, endpoints_of, is_usable, local}
use Rattle.kp_object_laws.proofs.Lists.{among_usable, entries_in_order, lists_in_order}
use Rattle.kp_object_laws.proofs.PortByKey.{info_has_key, infos_by_keys}
use Rattle.kp_door_defs.specs.Choice.{Chosen}
use Rattle.kp_door_defs.specs.Decision as decision
use Rattle.kp_door_defs.specs.Decision.{Translation, choice_at}
use Rattle.kp_door_defs.specs.Doors.{Door, Offer, address_doors, doors_of, fits, is_admitted, is_in_cluster, node_door, offer_by_policy, offer_if, offer_of, offered, outer_offer, taking_door, takes}
use Rattle.kp_door_defs.specs.Filter.{filtered}
use Rattle.kp_change_laws.proofs.Chosen.{chosen_in}
use Rattle.kp_change_laws.proofs.DoorKinds.{found, of_port}
use Rattle.kp_path_defs.specs.Asides.{Aside, asides_among, entries_at, entries_of_port, has_endpoint, reached, reached_by, same_endpoint, why_of}
use Rattle.kp_path_defs.specs.Paths.{answering_door, at_place, first_of, refusing_door, translation_at}
use Rattle.kp_path_laws.proofs.Reached.{paths_reach}
use Rattle.kp_path_laws.proofs.Rising.{one_list}
use Rattle.kp_path_laws.specs.EndpointLaws.{AnsweredWhereFits, EachEndpointOnce}

-- ---- Some of a rising list, and the others

endpoint_itself : (e : Endpoint) → same_endpoint e e ≡ true
endpoint_itself e = and_from _ _ (address_itself e.address) (nat_eq_equiv.refl e.port)

same_endpoint_exact : (a b : Endpoint) → same_endpoint a b ≡ true → a ≡ b
same_endpoint_exact a b h =
    let both = and_parts _ _ h in
    λ i. record {
      address = same_address_exact a.address b.address both.0 i;
      port = eqb-true a.port
          b.port both.1 i;
    }

has_from : (es : List Endpoint) (e : Endpoint) → Contains es e → has_endpoint es e ≡ true
has_from es e c = any_from (same_endpoint e) e es c (endpoint_itself e)

from_has : (es : List Endpoint) (e : Endpoint) → has_endpoint es e ≡ true → Contains es e
from_has es e h =
    let (f, c, same) = passing (same_endpoint e) es h in subst (Contains es)
    (sym (same_endpoint_exact e f same)) c

-- what holds of some endpoints of others in order: they are among them, and in order too
pub record ArePart (all es : List Endpoint) : Type 0 where
  pub among : (e : Endpoint) → Contains es e → Contains all e
  pub in_order : rises endpoint_cmp es ≡ true

rises_kept : (p : Endpoint → Bool) (xs : List Endpoint) → rises endpoint_cmp xs ≡ true
    → rises endpoint_cmp (filter p xs) ≡ true
rises_kept p [] h = refl
rises_kept p (x ∷ xs) h =
    let above : Endpoint → Bool = λ l. is_lt (endpoint_cmp x l) in
    let parts = and_parts (list_all above xs) (rises endpoint_cmp xs) h in
    let rest = rises_kept p xs parts.1 in
    elim (p x) as (λ b. rises endpoint_cmp (cond b (x ∷ filter p xs) (filter p xs)) ≡ true) [
      | true ↦ and_from _ _
          (all_from above (filter p xs)
          (λ y c. from_all above xs parts.0 y (from_filter p y xs c).0)) rest
      | false ↦ rest
    ]

module _ (all es : List Endpoint) (in_order : rises endpoint_cmp all ≡ true) (part : ArePart all es)
  where
    -- they are those of the others that they have
    are_kept : es ≡ filter (has_endpoint es) all
    are_kept =
        one_list endpoint_cmp endpoint_total es (filter (has_endpoint es) all) part.in_order
        (rises_kept (has_endpoint es) all in_order)
        (λ e c. in_filter (has_endpoint es) e all (part.among e c) (has_from es e c))
        (λ e c. from_has es e (from_filter (has_endpoint es) e all c).1)

    some_and_others : IsPermutation all (es ++ filter (λ e. not (has_endpoint es e)) all)
    some_and_others =
        subst (λ xs. IsPermutation all (xs ++ filter (λ e. not (has_endpoint es e)) all))
        (sym are_kept)
        (IsPermutation-filter_both (has_endpoint es) (λ e. not (has_endpoint es e)) (λ e. refl) all)

-- ---- Asides

kept_endpoints : (p : Endpoint → Bool) (cs : List Candidate)
    → map (λ c. c.endpoint) (filter (λ c. p c.endpoint) cs) ≡ filter p (map (λ c. c.endpoint) cs)
kept_endpoints p [] = refl
kept_endpoints p (c ∷ cs) = by (p c.endpoint) (kept_endpoints p cs)
  where
    by : (b : Bool) → map (λ x. x.endpoint) (filter (λ x. p x.endpoint) cs)
        ≡ filter p (map (λ x. x.endpoint) cs)
        → map (λ x. x.endpoint)
        (cond b (c ∷ filter (λ x. p x.endpoint) cs) (filter (λ x. p x.endpoint) cs))
        ≡ cond b (c.endpoint ∷ filter p (map (λ x. x.endpoint) cs))
        (filter p (map (λ x. x.endpoint) cs))
    by true rest = ap (λ es. c.endpoint ∷ es) rest
    by false rest = rest

asides_are : (config : FamilyConfig) (d : Door) (source : AddressParts) (t : Option Translation)
    (entries : List Candidate)
    → map (λ a. a.endpoint) (asides_among config d source t entries)
    ≡ filter (λ e. not (has_endpoint (reached t) e)) (endpoints_of entries)
asides_are config d source t entries =
    map-map (λ (a : Aside). a.endpoint)
    (λ (c : Candidate). record { endpoint = c.endpoint; why = why_of config d source c })
    (filter (λ c. not (has_endpoint (reached t) c.endpoint)) entries)
    ∙ kept_endpoints (λ e. not (has_endpoint (reached t) e)) entries

-- ---- What a door offers is part of the port's endpoints

module _ (all : List Endpoint) (i : PortInfo) (cluster : ArePart all i.lists.cluster)
    (near : ArePart all i.lists.local) where
  none_of : ArePart all []
  none_of = record { among = λ e c. absurd (none_in e c); in_order = refl }

  in_policy : (p : Policy) → ArePart all (offer_by_policy i p).endpoints
  in_policy Cluster = cluster
  in_policy Local = near

  in_either : (b : Bool)
      → ArePart all (cond b (offer_by_policy i Cluster) (offer_by_policy i Local)).endpoints
  in_either true = cluster
  in_either false = near

  in_outer : (config : FamilyConfig) (p : Policy) (source : AddressParts)
      → ArePart all (outer_offer config i p source).endpoints
  in_outer config Cluster source = cluster
  in_outer config Local source = in_either
      (is_in_cluster config source || is_local_address config.addresses source)

  in_admitted : (b : Bool) (o : Offer) → ArePart all o.endpoints
      → ArePart all (offer_if b o).endpoints
  in_admitted true o h = h
  in_admitted false o h = none_of

  in_offer : (config : FamilyConfig) (k : DoorKind) (source : AddressParts)
      → ArePart all (offered config k i source).endpoints
  in_offer config door.Cluster source = in_policy i.internal
  in_offer config door.External source = in_outer config i.outer source
  in_offer config door.Balancer source = in_admitted (is_admitted i.ranges source)
      (outer_offer config i i.outer source) (in_outer config i.outer source)
  in_offer config door.Node source = in_outer config i.outer source

only_one : (all es : List Endpoint) (e : Endpoint) → ArePart all es → Contains es e
    → ArePart all (e ∷ [])
only_one all es e part c = record {
  among = λ f d. elim (in_cases f e [] d)
      [ inl is ↦ subst (Contains all) is (part.among e c) | inr none ↦ absurd (none_in f none) ];
  in_order = refl;
}

part_reached : (all es : List Endpoint) (by : ChosenBy) (e : Endpoint) → ArePart all es
    → Contains es e → ArePart all (reached_by by es e)
part_reached all es Draws e part c = part
part_reached all es Affinity e part c = only_one all es e part c

-- ---- Doors of known ports

door_of_port : (infos : List PortInfo) (d : Door) → Contains (doors_of infos) d
    → Contains infos d.info
door_of_port infos d c =
    elim (Contains-append_cases (flat_map address_doors infos)
    (flat_map (λ i. node_door i i.node_port) infos) d c) [
      | inl at_address ↦
          let (i, there, mine) = from_flat_map address_doors d infos at_address in
          subst (Contains infos)
          (same_Some i d.info (of_port (Some i) d
          (Contains-append_left (address_doors i) (node_door i i.node_port) d mine))) there
      | inr at_node ↦
          let (i, there, mine) = from_flat_map (λ (i : PortInfo). node_door i i.node_port) d infos
          at_node in
          subst (Contains infos)
          (same_Some i d.info (of_port (Some i) d
          (Contains-append_right (address_doors i) (node_door i i.node_port) d mine))) there
    ]

-- ---- The lists of a known port

-- the lists of a port are part of its endpoints
record IsOfEntries (entries : List Candidate) (i : PortInfo) : Type 0 where
  cluster : ArePart (endpoints_of entries) i.lists.cluster
  near : ArePart (endpoints_of entries) i.lists.local

in_all : (p : Candidate → Bool) (cs : List Candidate) (e : Endpoint)
    → Contains (endpoints_of (filter p cs)) e → Contains (endpoints_of cs) e
in_all p cs e c =
    let (x, there, is) = from_map (λ (x : Candidate). x.endpoint) e (filter p cs) c in
    subst (Contains (endpoints_of cs)) is
    (in_map (λ (x : Candidate). x.endpoint) x cs (from_filter p x cs there).0)

module _ (family : Family) (config : FamilyConfig) (o : Objects) where
  of_parts : (s : Service) (p : ServicePort) (at : AddressParts) (entries : List Candidate)
      → are_in_order entries ≡ true
      → IsOfEntries entries (info_from family s p (zone_of o config.node) entries at)
  of_parts s p at entries h =
      let among = among_usable s.internal s.outer (is_reachable_in family s p)
      (zone_of o config.node) entries in
      let ordered = lists_in_order s.internal s.outer (is_reachable_in family s p)
      (zone_of o config.node) entries h in
      record {
        cluster = record {
          among = λ e c. in_all is_usable entries e (among.0 e c);
          in_order = ordered.0;
        };
        near = record {
          among = λ e c. in_all (λ x. x.local) entries e
              (in_all is_usable (local entries) e (among.1 e c));
          in_order = ordered.1;
        };
      }

  entries_rise : (key : PortKey) (s : Option Service)
      → are_in_order (entries_at family config o key s) ≡ true
  entries_rise key None = refl
  entries_rise key (Some s) = entries_in_order family config.node (sources_of family config o s) key

  of_service : (key : PortKey) (s : Service) (p : ServicePort) (i : PortInfo) → i.key ≡ key
      → info_of family config.node (zone_of o config.node) (sources_of family config o s, p)
      ≡ Some i
      → IsOfEntries (entries_at family config o key (Some s)) i
  of_service key s p i has h =
      let sources = sources_of family config o s in
      let entries = entries_from family config.node sources in
      let (at, there, is) = from_option_map
      (info_from family sources.service p (zone_of o config.node)
      (entries (port_key_of sources.service p))) _ i h in
      let keys : port_key_of sources.service p ≡ key = ap (λ (j : PortInfo). j.key) is ∙ has in
      subst (λ k. IsOfEntries (entries k) i) keys
      (subst (IsOfEntries (entries (port_key_of sources.service p))) is
      (of_parts sources.service p at (entries (port_key_of sources.service p))
      (entries_in_order family config.node sources (port_key_of sources.service p))))

  of_known : AreUnderOwnKeys o → (i : PortInfo) → Contains (port_infos family config o) i
      → IsOfEntries (entries_of_port family config o i.key) i
  of_known own i c =
      let (key, there, at) = from_filter_map (info_at family config o) i (port_keys o)
      (subst (λ is. Contains is i) (infos_by_keys family config o own) c) in
      let has : i.key ≡ key = info_has_key family config o key i own at in
      let (s, stored, in_it) = from_and_then (info_in family config o key)
      (get o.services key.object) i at in
      let (p, named, made) = from_and_then
      (λ p. info_of family config.node (zone_of o config.node)
      (sources_of family config o s, p)) (port_named key s) i in_it in
      subst (λ k. IsOfEntries (entries_of_port family config o k) i) (sym has)
      (subst (λ x. IsOfEntries (entries_at family config o key x) i) (sym stored)
      (of_service key s p i has made))

-- ---- The door that answers

module _ (setting : Setting) (infos : List PortInfo) (packet : Packet) (lists : RecentParts)
    (all : PortInfo → List Endpoint)
    (known : (i : PortInfo) → Contains infos i → ArePart (all i) i.lists.cluster
    × ArePart (all i) i.lists.local) where
  -- what is reached is part of the endpoints of the door's port
  of_translation : (t : Translation) → translation_at setting infos packet lists 0 ≡ Some t
      → ArePart (all t.door.info) (reached (Some t))
  of_translation t h =
      let first = at_place 0 setting in
      let (d, taking, at) = from_and_then (decision.translation_at first packet (λ _draw. 0) lists)
      (taking_door setting.config infos packet) t h in
      let (c, choice, is) = from_option_map
      (λ (c : Chosen). record
      { door = d; offer = offer_of setting.config packet d; chosen = c })
      (choice_at first packet (λ _draw. 0) lists d) t at in
      let es = (offer_of setting.config packet d).endpoints in
      let mine = chosen_in first d.info.key packet.source packet.now (λ _draw. 0) es d.info.affinity
      lists c choice in
      let (cluster, near) = known d.info
      (door_of_port infos d
      (found (takes setting.config packet) (doors_of infos) d taking).0) in
      subst (λ (x : Translation). ArePart (all x.door.info) (reached (Some x))) is
      (part_reached (all d.info) es c.by c.endpoint
      (in_offer (all d.info) d.info cluster near setting.config d.kind packet.source) mine)

  of_answer : (d : Door) (t : Option Translation) → translation_at setting infos packet lists 0 ≡ t
      → answering_door setting.config infos packet t ≡ Some d → ArePart (all d.info) (reached t)
  of_answer d None h answers = record { among = λ e c. absurd (none_in e c); in_order = refl }
  of_answer d (Some t) h answers =
      subst (λ (x : Door). ArePart (all x.info) (reached (Some t))) (same_Some t.door d answers)
      (of_translation t h)

pub each_endpoint_once : EachEndpointOnce
each_endpoint_once family settings o packet lists d own answers =
    let setting : Setting = view_of family settings in
    let infos = infos_by_family settings o family in
    let t = translation_at setting infos packet lists 0 in
    let entries = entries_of_port family setting.config o d.info.key in
    let ordered = entries_rise family setting.config o d.info.key
    (get o.services d.info.key.object) in
    let part = of_answer setting infos packet lists
    (λ i. endpoints_of (entries_of_port family setting.config o i.key))
    (λ i c. let it = of_known family setting.config o own i c in (it.cluster, it.near)) d t refl
    answers in (
      subst (λ es. IsPermutation (endpoints_of entries)
          (es ++ map (λ a. a.endpoint) (asides_among setting.config d packet.source t entries)))
          (sym (paths_reach setting infos packet lists))
          (subst (λ others. IsPermutation (endpoints_of entries) (reached t ++ others))
          (sym (asides_are setting.config d packet.source t entries))
          (some_and_others (endpoints_of entries) (reached t) ordered part)),
      ordered,
    )

-- ---- Where a door fits

pub some_found : {X : Type 0} (p : X → Bool) (xs : List X) → list_any p xs ≡ true
    → is_some (find p xs) ≡ true
some_found p [] h = absurd (cc)
some_found p (x ∷ xs) h = by (p x) h (some_found p xs)
  where
    by : (b : Bool) → (b || list_any p xs) ≡ true
        → (list_any p xs ≡ true → is_some (find p xs) ≡ true)
        → is_some (cond b (Some x) (find p xs)) ≡ true
    by true g rest = refl
    by false g rest = rest g

pub some_first : {X : Type 0} (o other : Option X) → is_some other ≡ true
    → is_some (first_of o other) ≡ true
some_first (Some x) other h = refl
some_first None other h = h

pub answered_where_fits : AnsweredWhereFits
answered_where_fits config infos packet t fit =
    some_first (option_map (λ x. x.door) t) (refusing_door config infos packet)
    (some_first (option_map (λ line. line.door) (filtered config infos packet))
    (find (fits config.addresses packet) (doors_of infos))
    (some_found (fits config.addresses packet) (doors_of infos) fit))
