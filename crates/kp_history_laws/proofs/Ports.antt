-- The ports of objects, and what is known of a port by its inputs.
use Rattle.std.proofs.Common.{◌≡◌, ℕ, Bool, true, false, true≢false, cond, ◌&&◌, ◌||◌, List, [], ◌∷◌, ◌++◌, map, bytes_eq, filter, flat_map, Option, Some, None, option_map, option_and_then, is_some, refl, sym, ap, ◌∙◌}
use Rattle.std.proofs.Math.Bool.{and-false, and-true, or-true}
use Rattle.std.specs.List as list
use Rattle.std.specs.Ordering.{eq_by_cmp}
use Rattle.std.specs.FinMap as finite
use Rattle.std.specs.FinMap.{find, get, get-entries}
use Rattle.std.specs.FinMap.Entries.{is_some-find}
use Rattle.std.proofs.lemmas.Bool.{and_parts}
use Rattle.std.proofs.lemmas.Option.{same_Some}
use Rattle.std.proofs.lemmas.List.Folds.{list_any-append}
use Rattle.std.proofs.lemmas.Slice.Eq.{bytes_eq-Decides}
use Rattle.kp_lemmas.proofs.Orders.{one_from_tie, tie_of_itself}
use Rattle.kp_base.specs.Keys.{key_cmp, port_key_cmp, same_proto}
use Rattle.kp_base.specs.declared.address.Family.{Family}
use Rattle.kp_base.specs.declared.key.ObjectKey.{ObjectKey}
use Rattle.kp_base.specs.declared.key.PortKey.{PortKey}
use Rattle.kp_base.proofs.KeyOrder.{port_key_total, port_key_exact}
use Rattle.kp_base.proofs.SameParts.{same_proto_exact}
use Rattle.kp_types.specs.Ports.{is_port}
use Rattle.kp_types.specs.Setting.{FamilyConfig, Settings, config_of_family}
use Rattle.kp_types.specs.declared.info.ServiceSources.{ServiceSources}
use Rattle.kp_types.specs.declared.lists.Candidate.{Candidate}
use Rattle.kp_types.specs.declared.service.Service.{Service}
use Rattle.kp_types.specs.declared.service.ServicePort.{ServicePort}
use Rattle.kp_object_defs.specs.Entries.{sources_of, entries_from, entries_of_both, is_of_family}
use Rattle.kp_object_defs.specs.Objects.{Objects, zone_of}
use Rattle.kp_object_defs.specs.OwnKeys.{AreUnderOwnKeys}
use Rattle.kp_object_defs.specs.Order.{in_order, distinct_in_order}
use Rattle.kp_object_defs.specs.PortInfo.{PortInfo, port_key_of, info_from, info_of, cluster_address_in}
use Rattle.kp_object_defs.specs.PortByKey.{port_keys_of, port_keys, port_named, info_in, info_at}
use Rattle.kp_object_defs.proofs.InOrder.{find-in_order}
use Rattle.kp_object_laws.proofs.FamilyEntries.{entries_of_both_in}
use Rattle.kp_object_laws.proofs.PortByKey.{sources_service}
use Rattle.kp_history_defs.specs.Inputs.{PortInputs, inputs_in, inputs_of, ports_of_either}
use Rattle.kp_history_laws.specs.EventLaws.{has_port}

-- ---- Lists of ports

-- of the ports that pass a test
pub has_filtered : (p : PortKey → Bool) (keys : List PortKey) (key : PortKey) → has_port (filter p keys) key ≡ (p key && has_port keys key)
has_filtered p [] key = sym (and-false (p key))
has_filtered p (k ∷ ks) key = by (has_filtered p ks key) _ refl (p k) refl
  where
    by : has_port (filter p ks) key ≡ (p key && has_port ks key) → (b : Bool) → eq_by_cmp port_key_cmp key k ≡ b → (c : Bool) → p k ≡ c
        → has_port (cond c (k ∷ filter p ks) (filter p ks)) key ≡ (p key && (b || has_port ks key))
    by rest true is true passes =
        ap (λ t. t || has_port (filter p ks) key) is
        ∙ sym (and-true (p key) ∙ ap p (one_from_tie port_key_exact key k is) ∙ passes)
    by rest true is false fails =
        let never : p key ≡ false = ap p (one_from_tie port_key_exact key k is) ∙ fails in
        rest ∙ ap (λ t. t && has_port ks key) never ∙ sym (ap (λ t. t && true) never)
    by rest false is true passes = ap (λ t. t || has_port (filter p ks) key) is ∙ rest
    by rest false is false fails = rest

-- of ports once each in order
pub has_distinct : (keys : List PortKey) (key : PortKey) → has_port (distinct_in_order port_key_cmp keys) key ≡ has_port keys key
has_distinct keys key =
    sym (is_some-find port_key_cmp key (in_order port_key_cmp (map (λ k. (k, k)) keys)))
    ∙ ap is_some (find-in_order port_key_total key (map (λ k. (k, k)) keys))
    ∙ is_some-find port_key_cmp key (map (λ k. (k, k)) keys)
    ∙ ap (λ ks. has_port ks key) (themselves keys)
  where
    themselves : (ks : List PortKey) → map (λ (e : PortKey × PortKey). e.0) (map (λ k. (k, k)) ks) ≡ ks
    themselves [] = refl
    themselves (k ∷ ks) = ap (λ rest. k ∷ rest) (themselves ks)

-- of the ports of Services before or after
pub has_either : (before after : Objects) (key : PortKey) → has_port (ports_of_either before after) key ≡ (has_port (port_keys before) key || has_port (port_keys after) key)
has_either before after key =
    has_distinct (flat_map port_keys_of (finite.values before.services) ++ flat_map port_keys_of (finite.values after.services)) key
    ∙ list_any-append (eq_by_cmp port_key_cmp key) (flat_map port_keys_of (finite.values before.services)) (flat_map port_keys_of (finite.values after.services))
    ∙ (λ i. sym (has_distinct (flat_map port_keys_of (finite.values before.services)) key) i || sym (has_distinct (flat_map port_keys_of (finite.values after.services)) key) i)

-- ---- A port that is found has its name among the ports

named_in : (s : Service) (key : PortKey) → s.key ≡ key.object → (ps : List ServicePort) (p : ServicePort) → list.find (is_port key.port_name key.proto) ps ≡ Some p
    → has_port (map (port_key_of s) ps) key ≡ true
named_in s key own [] p h = absurd (cc)
named_in s key own (q ∷ qs) p h = by (named_in s key own qs p) _ refl h
  where
    by : (list.find (is_port key.port_name key.proto) qs ≡ Some p → has_port (map (port_key_of s) qs) key ≡ true) → (b : Bool) → is_port key.port_name key.proto q ≡ b → cond b (Some q) (list.find (is_port key.port_name key.proto) qs) ≡ Some p
        → has_port (port_key_of s q ∷ map (port_key_of s) qs) key ≡ true
    by rest true is h =
        let parts = and_parts (bytes_eq q.name key.port_name) (same_proto q.proto key.proto) is in
        let same : port_key_of s q ≡ key = λ i. record { object = own i; port_name = (bytes_eq-Decides q.name _).0 parts.0 i; proto = same_proto_exact q.proto key.proto parts.1 i } in
        ap (λ b. b || has_port (map (port_key_of s) qs) key) (ap (eq_by_cmp port_key_cmp key) same ∙ tie_of_itself port_key_total key)
    by rest false is h =
        ap (λ b. eq_by_cmp port_key_cmp key (port_key_of s q) || b) (rest h) ∙ or-true _

among_entries : (key : PortKey) (s : Service) → has_port (port_keys_of s) key ≡ true → (es : List (ObjectKey × Service)) → find key_cmp key.object es ≡ Some s
    → has_port (flat_map port_keys_of (map (λ e. e.1) es)) key ≡ true
among_entries key s has [] h = absurd (cc)
among_entries key s has (e ∷ es) h =
    list_any-append (eq_by_cmp port_key_cmp key) (port_keys_of e.1) (flat_map port_keys_of (map (λ f. f.1) es))
    ∙ by (among_entries key s has es) (eq_by_cmp key_cmp key.object e.0) h
  where
    by : (find key_cmp key.object es ≡ Some s → has_port (flat_map port_keys_of (map (λ f. f.1) es)) key ≡ true) → (b : Bool) → cond b (Some e.1) (find key_cmp key.object es) ≡ Some s → (has_port (port_keys_of e.1) key || has_port (flat_map port_keys_of (map (λ f. f.1) es)) key) ≡ true
    by rest true h = ap (λ b. b || has_port (flat_map port_keys_of (map (λ f. f.1) es)) key) (ap (λ t. has_port (port_keys_of t) key) (same_Some e.1 s h) ∙ has)
    by rest false h = ap (λ b. has_port (port_keys_of e.1) key || b) (rest h) ∙ or-true (has_port (port_keys_of e.1) key)

module _ (o : Objects) (own : AreUnderOwnKeys o) (key : PortKey) where
  -- a port that isn't among the ports of the objects is found at no Service
  not_named : {X : Type 0} (of : Service → Option ServicePort → Option X)
      → ((s : Service) → of s None ≡ None) → has_port (port_keys o) key ≡ false
      → option_and_then (λ s. of s (port_named key s)) (get o.services key.object) ≡ None
  not_named {X} of without none = service _ refl
    where
      port : (s : Service) → get o.services key.object ≡ Some s → (found : Option ServicePort)
          → port_named key s ≡ found → of s found ≡ None
      port s at None is = without s
      port s at (Some p) is =
          absurd (true≢false (sym (has_distinct _ key
          ∙ among_entries key s (named_in s key (own.services key.object s at) s.ports p is) _
          (sym (get-entries o.services key.object) ∙ at)) ∙ none))

      service : (found : Option Service) → get o.services key.object ≡ found
          → option_and_then (λ s. of s (port_named key s)) found ≡ None
      service None at = refl
      service (Some s) at = port s at _ refl

  -- so it has no inputs,
  pub no_inputs : (settings : Settings) → has_port (port_keys o) key ≡ false
      → inputs_of settings o key ≡ None
  no_inputs settings = not_named (λ s. option_map (inputs_in settings o s)) (λ s. refl)

  -- and nothing is known of it
  pub no_info : (family : Family) (config : FamilyConfig) → has_port (port_keys o) key ≡ false
      → info_at family config o key ≡ None
  no_info family config =
      not_named (λ s. option_and_then (λ p.
      info_of family config.node (zone_of o config.node) (sources_of family config o s, p)))
      (λ s. refl)

-- ---- What is known of a port

-- what is known in a family of a port with these inputs
abbrev pub info_by : Family → PortKey → PortInputs → Option PortInfo
info_by family key inputs =
    option_and_then (λ p. option_map
    (info_from family inputs.service p inputs.zone (filter (is_of_family family) inputs.entries))
    (cluster_address_in family inputs.service)) (port_named key inputs.service)

-- the inputs of a port tell what is known of it in each family
pub info_by_inputs : (settings : Settings) (family : Family) (o : Objects) (key : PortKey)
    → info_at family (config_of_family family settings.config) o key
    ≡ option_and_then (info_by family key) (inputs_of settings o key)
info_by_inputs settings family o key = service _
  where
    config : FamilyConfig
    config = config_of_family family settings.config

    zone : Option (List ℕ)
    zone = zone_of o settings.config.node

    known : (t : Service) (p : ServicePort) → List Candidate → Option PortInfo
    known t p entries =
        option_map (info_from family t p zone entries) (cluster_address_in family t)

    port : (s : Service) (found : Option ServicePort) → port_named key s ≡ found
        → option_and_then (λ p.
        info_of family config.node (zone_of o config.node) (sources_of family config o s, p)) found
        ≡ option_and_then (info_by family key) (option_map (inputs_in settings o s) found)
    port s None is = refl
    port s (Some p) is =
        let from : ServiceSources = sources_of family config o s in
        ap (λ t. known t p (entries_from family config.node from (port_key_of t p)))
        (sources_service family config o s)
        ∙ ap (known s p) (sym (entries_of_both_in settings.config o s (port_key_of s p) family))
        ∙ ap (option_and_then (λ q.
        known s q (filter (is_of_family family)
        (entries_of_both settings.config o s (port_key_of s p))))) (sym is)

    service : (found : Option Service)
        → option_and_then (info_in family config o key) found
        ≡ option_and_then (info_by family key)
        (option_and_then (λ s. option_map (inputs_in settings o s) (port_named key s)) found)
    service None = refl
    service (Some s) = port s _ refl
