-- Where packets are sent: to endpoints of the lists of ports.
use Rattle.std.proofs.Common.{◌≡◌, ℕ, ◌==◌, Bool, true, false, not, ◌&&◌, ◌||◌, cond, List, ◌++◌, Contains, Option, Some, None, option_and_then, option_map, refl, sym, ap, ◌∙◌, subst, inl, inr}
use Rattle.std.specs.List.{find, flat_map, list_any}
use Rattle.std.proofs.lemmas.Bool.{and_from, and_parts, or_left, or_right}
use Rattle.std.proofs.lemmas.List.Elements.{Contains-append_left, Contains-append_right, Contains-append_cases}
use Rattle.std.proofs.lemmas.Option.{same_Some}
use Rattle.std.specs.Cmp.{nat_eq_equiv}
use Rattle.kp_lemmas.proofs.Members.{any_from, from_flat_map, none_in, passing}
use Rattle.kp_lemmas.proofs.Options.{from_and_then, from_option_map}
use Rattle.kp_base.proofs.SameParts.{address_itself, same_family_exact, same_proto_exact}
use Rattle.kp_base.specs.Keys.{same_proto}
use Rattle.kp_base.specs.Net.{AddressParts, same_address, same_family}
use Rattle.kp_base.specs.declared.address.Family.{Family}
use Rattle.kp_base.specs.declared.config.Config.{Config}
use Rattle.kp_base.specs.declared.key.Endpoint.{Endpoint}
use Rattle.kp_base.specs.declared.port.Proto.{Proto}
use Rattle.kp_base.specs.declared.port.Proto.TheVariants.{Sctp, Tcp, Udp}
use Rattle.kp_types.specs.Packets.{family_of_packet}
use Rattle.kp_types.specs.Setting.{FamilyConfig, Setting, config_for, has_tables_of, table_families, view_of}
use Rattle.kp_types.specs.declared.decision.DoorKind.{DoorKind}
use Rattle.kp_types.specs.declared.decision.DoorKind.TheVariants as door
use Rattle.kp_types.specs.declared.packet.Packet.{Packet}
use Rattle.kp_types.specs.declared.service.Policy.{Policy}
use Rattle.kp_types.specs.declared.service.Policy.TheVariants.{Cluster, Local}
use Rattle.kp_types.specs.declared.verdict.Verdict.{Verdict}
use Rattle.kp_types.specs.declared.verdict.Verdict.TheVariants.{To}
use Rattle.kp_choice_defs.specs.Recent.{RecentParts}
use Rattle.kp_choice_defs.specs.Settings.{settings_of}
use Rattle.kp_object_defs.specs.Desired.{is_empty}
use Rattle.kp_object_defs.specs.Objects.{Objects}
use Rattle.kp_object_defs.specs.PortInfo.{PortInfo, infos_by_family, port_infos}
use Rattle.kp_door_defs.specs.Choice.{Chosen}
use Rattle.kp_door_defs.specs.Decision.{Translation, by_filter, choice_at, decision_by, decision_from, decision_if, lists_after, refused_by, translated, translation_at, translation_of}
use Rattle.kp_door_defs.specs.Doors.{Door, Offer, address_doors, doors_of, fits, node_door, offer_by_policy, offer_if, offer_of, offered, outer_offer, is_admitted, is_at, is_in_cluster, taking_door, takes}
use Rattle.kp_door_defs.specs.Filter.{Line, Refusal, Rejects, DropsClosed, DropsNoLocal, filtered}
use Rattle.kp_base.specs.Net.{is_local_address}
use Rattle.kp_change_laws.proofs.Chosen.{chosen_in}
use Rattle.kp_change_laws.proofs.DoorKinds.{found, of_port}
use Rattle.kp_track_defs.specs.Stands.{has_endpoint, has_in_lists, is_endpoint, stands_by, stands_in}
use Rattle.kp_track_laws.specs.StandingLaws.{UdpSent}

-- ---- What a door offers is in its port's lists

abbrev pub both_lists : PortInfo → List Endpoint
both_lists i = i.lists.cluster ++ i.lists.local

in_policy : (i : PortInfo) (p : Policy) (e : Endpoint) → Contains (offer_by_policy i p).endpoints e → Contains (both_lists i) e
in_policy i Cluster e c = Contains-append_left i.lists.cluster i.lists.local e c
in_policy i Local e c = Contains-append_right i.lists.cluster i.lists.local e c

in_either : (i : PortInfo) (b : Bool) (e : Endpoint)
    → Contains (cond b (offer_by_policy i Cluster) (offer_by_policy i Local)).endpoints e → Contains (both_lists i) e
in_either i true e c = in_policy i Cluster e c
in_either i false e c = in_policy i Local e c

in_outer : (config : FamilyConfig) (i : PortInfo) (p : Policy) (source : AddressParts) (e : Endpoint)
    → Contains (outer_offer config i p source).endpoints e → Contains (both_lists i) e
in_outer config i Cluster source e c = in_policy i Cluster e c
in_outer config i Local source e c = in_either i (is_in_cluster config source || is_local_address config.addresses source) e c

in_admitted : (a : Bool) (o : Offer) (i : PortInfo) (e : Endpoint) → (Contains o.endpoints e → Contains (both_lists i) e)
    → Contains (offer_if a o).endpoints e → Contains (both_lists i) e
in_admitted true o i e mine c = mine c
in_admitted false o i e mine c = absurd (none_in e c)

in_offer : (config : FamilyConfig) (k : DoorKind) (i : PortInfo) (source : AddressParts) (e : Endpoint)
    → Contains (offered config k i source).endpoints e → Contains (both_lists i) e
in_offer config door.Cluster i source e c = in_policy i i.internal e c
in_offer config door.External i source e c = in_outer config i i.outer source e c
in_offer config door.Balancer i source e c =
    in_admitted (is_admitted i.ranges source) (outer_offer config i i.outer source) i e (in_outer config i i.outer source e) c
in_offer config door.Node i source e c = in_outer config i i.outer source e c

-- ---- A door is one of a known port

door_of_port : (infos : List PortInfo) (d : Door) → Contains (doors_of infos) d → Contains infos d.info
door_of_port infos d c =
    elim (Contains-append_cases (flat_map address_doors infos) (flat_map (λ i. node_door i i.node_port) infos) d c) [
      | inl at_address ↦
          let (i, there, mine) = from_flat_map address_doors d infos at_address in
          subst (Contains infos) (same_Some i d.info (of_port (Some i) d (Contains-append_left (address_doors i) (node_door i i.node_port) d mine))) there
      | inr at_node ↦
          let (i, there, mine) = from_flat_map (λ (i : PortInfo). node_door i i.node_port) d infos at_node in
          subst (Contains infos) (same_Some i d.info (of_port (Some i) d (Contains-append_right (address_doors i) (node_door i i.node_port) d mine))) there
    ]

fits_proto : (node : List AddressParts) (packet : Packet) (d : Door) → fits node packet d ≡ true
    → same_proto d.info.key.proto packet.proto ≡ true
fits_proto node packet d h =
    (and_parts (same_proto d.info.key.proto packet.proto) (d.number == packet.port)
    (and_parts (same_proto d.info.key.proto packet.proto && (d.number == packet.port)) (is_at d.info.address.family node d.address packet.target) h).0).0

pub itself : (e : Endpoint) → is_endpoint e e ≡ true
itself e = and_from _ _ (address_itself e.address) (nat_eq_equiv.refl e.port)

-- an endpoint of either list is found in one
pub listed : (i : PortInfo) (e : Endpoint) → Contains (both_lists i) e
    → (has_endpoint e i.lists.cluster || has_endpoint e i.lists.local) ≡ true
listed i e c =
    elim (Contains-append_cases i.lists.cluster i.lists.local e c) [
      | inl there ↦ or_left _ _ (any_from (λ other. is_endpoint other e) e i.lists.cluster there (itself e))
      | inr there ↦ or_right _ _ (any_from (λ other. is_endpoint other e) e i.lists.local there (itself e))
    ]

-- ---- So its endpoint stands

module _ (setting : Setting) (infos : List PortInfo) (packet : Packet) (draws : ℕ → ℕ) (lists : RecentParts) (udp : same_proto packet.proto Udp ≡ true) where
  of_translation : (t : Translation) → translation_of setting infos packet draws lists ≡ Some t
      → stands_in infos t.chosen.endpoint ≡ true
  of_translation t h =
      let (d, taking, at) = from_and_then (translation_at setting packet draws lists) (taking_door setting.config infos packet) t h in
      let (c, choice, is) = from_option_map (λ (c : Chosen). record { door = d; offer = offer_of setting.config packet d; chosen = c }) (choice_at setting packet draws lists d) t at in
      let (there, takes_it) = found (takes setting.config packet) (doors_of infos) d taking in
      let fit : fits setting.config.addresses packet d ≡ true = (and_parts (fits setting.config.addresses packet d) (not (is_empty (offer_of setting.config packet d).endpoints)) takes_it).0 in
      let mine = chosen_in setting d.info.key packet.source packet.now draws (offer_of setting.config packet d).endpoints d.info.affinity lists c choice in
      let proto = ap (λ p. same_proto p Udp) (same_proto_exact d.info.key.proto packet.proto (fits_proto setting.config.addresses packet d fit)) ∙ udp in
      let stands = any_from (has_in_lists c.endpoint) d.info infos (door_of_port infos d there)
      (and_from _ _ proto (listed d.info c.endpoint (in_offer setting.config d.kind d.info packet.source c.endpoint mine))) in
      subst (λ (s : Translation). stands_in infos s.chosen.endpoint ≡ true) is stands

  not_refused : (r : Refusal) (d : Door) (left : RecentParts) (e : Endpoint) (masked : Bool)
      → (refused_by r d left).verdict ≡ To e masked → stands_in infos e ≡ true
  not_refused Rejects d left e masked h = cc
  not_refused DropsClosed d left e masked h = cc
  not_refused DropsNoLocal d left e masked h = cc

  by_line : (t : Option Translation) (left : RecentParts) (line : Option Line) (e : Endpoint) (masked : Bool)
      → translation_of setting infos packet draws lists ≡ t
      → (by_filter setting.config packet t left line).verdict ≡ To e masked → stands_in infos e ≡ true
  by_line t left (Some line) e masked is h = not_refused line.refusal line.door left e masked h
  by_line None left None e masked is h = cc
  by_line (Some t) left None e masked is h =
      let same : t.chosen.endpoint ≡ e = cc in
      ap (stands_in infos) (sym same) ∙ of_translation t is

  from_infos : (e : Endpoint) (masked : Bool)
      → (decision_from setting infos packet draws lists).verdict ≡ To e masked → stands_in infos e ≡ true
  from_infos e masked h =
      let t = translation_of setting infos packet draws lists in
      by_line t (lists_after t lists) (filtered setting.config infos (translated packet t)) e masked refl h

pub udp_sent : UdpSent
udp_sent config o packet draws lists e masked udp h = by_tables (has_tables_of family (settings_of config)) refl h
  where
    family : Family
    family = family_of_packet packet

    infos : List PortInfo
    infos = infos_by_family (settings_of config) o family

    by_tables : (b : Bool) → has_tables_of family (settings_of config) ≡ b
        → (decision_if b (view_of family (settings_of config)) infos packet draws lists).verdict ≡ To e masked
        → stands_by config o e ≡ true
    by_tables false has g = cc
    by_tables true has g =
        let (f, there, is) = passing (same_family family) (table_families config) has in
        any_from (λ f. stands_in (port_infos f (config_for f config) o) e) family (table_families config)
        (subst (Contains (table_families config)) (sym (same_family_exact family f is)) there)
        (from_infos (view_of family (settings_of config)) infos packet draws lists udp e masked g)
