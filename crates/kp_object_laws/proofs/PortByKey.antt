-- A Service port is found by its name.
use Rattle.std.proofs.Common.{◌≡◌, inl, inr, Bool, true, false, true≢false, cond, not, ℕ, List, [], ◌∷◌, ◌++◌, map, reverse, Contains, bytes_eq, Option, Some, None, option_map, option_and_then, filter_map, flat_map, refl, sym, ap, subst, ◌∙◌}
use Rattle.std.specs.List as list
use Rattle.std.specs.List.{list_any, cons_option, AllByRecursion}
use Rattle.std.specs.FinMap as finite
use Rattle.std.specs.FinMap.{find, get}
use Rattle.std.proofs.lemmas.Bool.{and_from, and_parts, not-true, false_from_ne_true}
use Rattle.std.proofs.lemmas.List.{map-append}
use Rattle.std.proofs.lemmas.Option.{same_Some}
use Rattle.std.proofs.lemmas.Slice.Eq.{bytes_eq-Decides}
use Rattle.kp_lemmas.proofs.Booleans.{fact_from_true}
use Rattle.kp_lemmas.proofs.Entries.{sorted_found}
use Rattle.kp_lemmas.proofs.ListFacts.{all_weaker}
use Rattle.kp_base.specs.Keys.{port_key_cmp, same_proto}
use Rattle.kp_base.specs.Net.{AddressParts}
use Rattle.kp_base.specs.declared.address.Family.{Family}
use Rattle.kp_base.specs.declared.port.Proto.{Proto}
use Rattle.kp_base.specs.declared.port.Proto.TheVariants.{Sctp, Tcp, Udp}
use Rattle.kp_base.specs.declared.key.PortKey.{PortKey}
use Rattle.kp_base.proofs.KeyOrder.{key_total, key_exact, port_key_total, port_key_exact}
use Rattle.kp_base.proofs.SameParts.{same_proto_exact}
use Rattle.kp_types.specs.Ports.{is_port, distinct_ports}
use Rattle.kp_types.specs.Setting.{FamilyConfig}
use Rattle.kp_types.specs.declared.info.ServiceSources.{ServiceSources}
use Rattle.kp_types.specs.declared.lists.Candidate.{Candidate}
use Rattle.kp_types.specs.declared.service.Service.{Service}
use Rattle.kp_types.specs.declared.service.ServicePort.{ServicePort}
use Rattle.kp_object_defs.specs.Entries.{sources_of, entries_from}
use Rattle.kp_object_defs.specs.Objects.{Objects, zone_of}
use Rattle.kp_object_defs.specs.OwnKeys.{AreUnderOwnKeys}
use Rattle.kp_object_defs.specs.Order.{by_key, distinct_in_order}
use Rattle.kp_object_defs.specs.PortInfo.{PortInfo, port_key_of, info_from, info_of, infos_from, ports_of, name_of_port}
use Rattle.kp_object_defs.specs.PortByKey.{port_keys_of, port_named, info_in, info_at}
use Rattle.kp_object_defs.proofs.InOrder.{sorted-in_order}
use Rattle.kp_object_laws.specs.PortLaws.{PortIsNamed, InfoHasKey, InfosByKeys}
use Rattle.kp_lemmas.proofs.Members.{none_in, none_passes, in_cases, from_map, from_flat_map}
use Rattle.kp_object_laws.proofs.OwnEntries.{owned, found_itself, of_element, keys_of_elements}
use Rattle.kp_object_laws.proofs.OwnKeys.{values_in_order, found_in_values}

-- ---- A port of a Service

same_port_itself : (p : ServicePort) → is_port p.name p.proto p ≡ true
same_port_itself p = and_from _ _ ((bytes_eq-Decides p.name p.name).1 refl) (proto_itself p.proto)
  where
    proto_itself : (q : Proto) → same_proto q q ≡ true
    proto_itself Sctp = refl
    proto_itself Tcp = refl
    proto_itself Udp = refl

-- a port of another name or protocol isn't found
other_port : (p q : ServicePort) → is_port q.name q.proto p ≡ false → is_port p.name p.proto q ≡ false
other_port p q other =
    false_from_ne_true _ (λ same.
    let parts = and_parts (bytes_eq q.name p.name) (same_proto q.proto p.proto) same in
    let names : q.name ≡ p.name = (bytes_eq-Decides q.name p.name).0 parts.0 in
    let protos : q.proto ≡ p.proto = same_proto_exact q.proto p.proto parts.1 in
    true≢false (sym (same_port_itself p) ∙ (λ i. is_port (sym names i) (sym protos i) p) ∙ other))

found_port : (ps : List ServicePort) → distinct_ports ps ≡ true → (p : ServicePort) → Contains ps p → list.find (is_port p.name p.proto) ps ≡ Some p
found_port [] h p c = absurd (none_in p c)
found_port (q ∷ qs) h p c =
    let parts = and_parts (not (list_any (is_port q.name q.proto) qs)) (distinct_ports qs) h in
    elim (in_cases p q qs c) [
      | inl e ↦ ap (λ b. cond b (Some q) (list.find (is_port p.name p.proto) qs)) (ap (is_port p.name p.proto) e ∙ same_port_itself p) ∙ ap Some e
      | inr d ↦
          ap (λ b. cond b (Some q) (list.find (is_port p.name p.proto) qs)) (other_port p q (none_passes _ p qs (not-true _ parts.0) d))
          ∙ found_port qs parts.1 p d
    ]

pub port_is_named : PortIsNamed
port_is_named s p c = found_port s.ports s.distinct p c

-- ---- The port of a name

-- of two sources, those that have the Service
service_by : (b : Bool) (x y : ServiceSources) → x.service ≡ y.service
    → (cond b x y).service ≡ y.service
service_by true x y h = h
service_by false x y h = refl

-- what a Service's endpoints are taken from tells the Service
pub sources_service : (family : Family) (config : FamilyConfig) (o : Objects) (s : Service)
    → (sources_of family config o s).service ≡ s
sources_service family config o s = service_by _ _ _ refl

-- of Services that the objects have
module _ (family : Family) (config : FamilyConfig) (o : Objects) (ss : List Service) (stored : (s : Service) → Contains ss s → get o.services s.key ≡ Some s) where
  abbrev sources : Service → ServiceSources
  sources s = sources_of family config o s

  abbrev ports : List (ServiceSources × ServicePort)
  ports = flat_map ports_of (map (sources_of family config o) ss)

  abbrev known : ServiceSources × ServicePort → Option PortInfo
  known = info_of family config.node (zone_of o config.node)

  of_service : (s : Service) (p : ServicePort) → Contains ss s → Contains s.ports p → info_at family config o (port_key_of s p) ≡ known (sources s, p)
  of_service s p c d =
      ap (option_and_then (info_in family config o (port_key_of s p))) (stored s c)
      ∙ ap (option_and_then (λ q. known (sources s, q))) (port_is_named s p d)

  of_port : (q : ServiceSources × ServicePort) → Contains ports q → info_at family config o (name_of_port q) ≡ known q
  of_port q c =
      let (from, in_sources, in_its) = from_flat_map ports_of q _ c in
      let (s, in_services, is) = from_map _ from ss in_sources in
      let (p, in_ports, of) = from_map (λ p. (from, p)) q _ in_its in
      let same : from.service ≡ s = ap (λ (t : ServiceSources). t.service) (sym is) ∙ sources_service family config o s in
      ap (λ r. info_at family config o (name_of_port r)) (sym of)
      ∙ ap (λ t. info_at family config o (port_key_of t p)) same
      ∙ of_service s p in_services (subst (λ (t : Service). Contains t.ports p) same in_ports)
      ∙ ap (λ t. known (t, p)) is ∙ ap known of

  abbrev named_ports : List (PortKey × (ServiceSources × ServicePort))
  named_ports = by_key port_key_cmp name_of_port (flat_map ports_of (map (sources_of family config o) ss))

  each_port : AllByRecursion (λ (e : PortKey × (ServiceSources × ServicePort)). info_at family config o e.0 ≡ known e.1) named_ports
  each_port =
      all_weaker (λ e. find port_key_cmp e.0 named_ports ≡ Some e.1) (λ e. info_at family config o e.0 ≡ known e.1)
      (λ e found.
      let (in_ports, is) = of_element port_key_total port_key_exact name_of_port ports e found in
      ap (info_at family config o) (sym is) ∙ of_port e.1 in_ports)
      named_ports (sorted_found port_key_total named_ports (fact_from_true (sorted-in_order port_key_total (reverse (owned name_of_port ports)))))

made_alike : {A B C : Type 0} (f : A → Option C) (g : B → Option C) (es : List (A × B)) → AllByRecursion (λ e. f e.0 ≡ g e.1) es → filter_map g (map (λ e. e.1) es) ≡ filter_map f (map (λ e. e.0) es)
made_alike f g [] h = refl
made_alike f g (e ∷ es) h = λ i. cons_option (sym h.0 i) (made_alike f g es h.1 i)

named_pieces : (family : Family) (config : FamilyConfig) (o : Objects) (ss : List Service) → map name_of_port (flat_map ports_of (map (sources_of family config o) ss)) ≡ flat_map port_keys_of ss
named_pieces family config o [] = refl
named_pieces family config o (s ∷ ss) =
    map-append name_of_port (ports_of (sources_of family config o s)) (flat_map ports_of (map (sources_of family config o) ss))
    ∙ (λ i. one (sources_of family config o s) (sources_of family config o s).service.ports i ++ named_pieces family config o ss i)
    ∙ ap (λ t. map (port_key_of t) t.ports ++ flat_map port_keys_of ss) (sources_service family config o s)
  where
    one : (from : ServiceSources) (ps : List ServicePort) → map name_of_port (map (λ p. (from, p)) ps) ≡ map (port_key_of from.service) ps
    one from [] = refl
    one from (p ∷ ps) = ap (λ rest. port_key_of from.service p ∷ rest) (one from ps)

-- what is known of the ports of Services that the objects have is what is found by the ports' names
pub infos_by_names : (family : Family) (config : FamilyConfig) (o : Objects) (ss : List Service) → ((s : Service) → Contains ss s → get o.services s.key ≡ Some s)
    → infos_from family config.node (zone_of o config.node) (map (sources_of family config o) ss) ≡ filter_map (info_at family config o) (distinct_in_order port_key_cmp (flat_map port_keys_of ss))
infos_by_names family config o ss stored =
    made_alike _ _ _ (each_port family config o ss stored)
    ∙ ap (filter_map (info_at family config o))
    (keys_of_elements port_key_total port_key_exact name_of_port (ports family config o ss stored)
    ∙ ap (distinct_in_order port_key_cmp) (named_pieces family config o ss))

-- all Services of the objects stand under their keys
pub all_stored : (o : Objects) → AreUnderOwnKeys o → (s : Service) → Contains (finite.values o.services) s → get o.services s.key ≡ Some s
all_stored o own s c =
    sym (found_in_values (λ x. x.key) o.services own.services s.key)
    ∙ found_itself key_total key_exact (λ x. x.key) _ (values_in_order (λ x. x.key) o.services own.services) s c

pub infos_by_keys : InfosByKeys
infos_by_keys family config o own = infos_by_names family config o _ (all_stored o own)

-- ---- The name of what is found

-- what is found passes the test
pub found_passes : {X : Type 0} (test : X → Bool) (xs : List X) (x : X) → list.find test xs ≡ Some x → test x ≡ true
found_passes test [] x h = absurd (cc)
found_passes test (y ∷ ys) x h = by _ refl (found_passes test ys x) h
  where
    by : (b : Bool) → test y ≡ b → (list.find test ys ≡ Some x → test x ≡ true) → cond b (Some y) (list.find test ys) ≡ Some x → test x ≡ true
    by true e rest h = ap test (sym (same_Some y x h)) ∙ e
    by false e rest h = rest h

info_key : (family : Family) (s : Service) (p : ServicePort) (zone : Option (List ℕ)) (entries : List Candidate) (address : Option AddressParts) (i : PortInfo)
    → option_map (info_from family s p zone entries) address ≡ Some i → i.key ≡ port_key_of s p
info_key family s p zone entries None i h = absurd (cc)
info_key family s p zone entries (Some a) i h = ap (λ (j : PortInfo). j.key) (sym (same_Some (info_from family s p zone entries a) i h))

module _ (family : Family) (config : FamilyConfig) (o : Objects) (key : PortKey) (i : PortInfo) where
  key_of_port : (s : Service) → s.key ≡ key.object → (found : Option ServicePort) → port_named key s ≡ found
      → option_and_then (λ p. info_of family config.node (zone_of o config.node) (sources_of family config o s, p)) found ≡ Some i → i.key ≡ key
  key_of_port s is None named h = absurd (cc)
  key_of_port s is (Some p) named h =
      let from : ServiceSources = sources_of family config o s in
      let parts = and_parts (bytes_eq p.name key.port_name) (same_proto p.proto key.proto) (found_passes _ s.ports p named) in
      info_key family from.service p _ (entries_from family config.node from (port_key_of from.service p)) _ i h
      ∙ ap (λ t. port_key_of t p) (sources_service family config o s)
      ∙ (λ j. record { object = is j; port_name = (bytes_eq-Decides p.name _).0 parts.0 j; proto = same_proto_exact p.proto key.proto parts.1 j })

  key_of_service : AreUnderOwnKeys o → (found : Option Service) → get o.services key.object ≡ found → option_and_then (info_in family config o key) found ≡ Some i → i.key ≡ key
  key_of_service own None at h = absurd (cc)
  key_of_service own (Some s) at h = key_of_port s (own.services key.object s at) _ refl h

pub info_has_key : InfoHasKey
info_has_key family config o key i own h = key_of_service family config o key i own _ refl h
