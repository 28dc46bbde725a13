-- What is known of the ports of one Service is found by their names.
use Rattle.std.proofs.Common.{◌≡◌, ◌||◌, Bool, true, false, true≢false, cond, List, [], ◌∷◌, ◌++◌}
use Rattle.std.proofs.Common.{map, Option, Some, None, option_and_then, append-nil, bytes_eq}
use Rattle.std.proofs.Common.{refl, sym, ap, ◌∙◌}
use Rattle.std.specs.FinMap.{get}
use Rattle.std.specs.List as list
use Rattle.std.specs.List.{cons_option, filter_map, flat_map}
use Rattle.std.specs.Option.{option_to_list}
use Rattle.std.specs.Ordering.{eq_by_cmp}
use Rattle.std.proofs.lemmas.Bool.{and_parts, or_parts}
use Rattle.std.proofs.lemmas.Slice.Eq.{bytes_eq-Decides}
use Rattle.kp_lemmas.proofs.Orders.{one_from_tie, tie_of_itself}
use Rattle.kp_base.specs.Keys.{port_key_cmp, same_proto}
use Rattle.kp_base.specs.declared.key.ObjectKey.{ObjectKey}
use Rattle.kp_base.specs.declared.key.PortKey.{PortKey}
use Rattle.kp_base.proofs.KeyOrder.{key_exact, port_key_exact, port_key_total}
use Rattle.kp_base.proofs.SameParts.{same_proto_exact}
use Rattle.kp_types.specs.Ports.{is_port}
use Rattle.kp_types.specs.Setting.{Setting}
use Rattle.kp_types.specs.declared.service.Service.{Service}
use Rattle.kp_types.specs.declared.service.ServicePort.{ServicePort}
use Rattle.kp_object_defs.specs.Objects.{Objects, zone_of}
use Rattle.kp_object_defs.specs.OwnKeys.{AreUnderOwnKeys}
use Rattle.kp_object_defs.specs.Order.{distinct_in_order}
use Rattle.kp_object_defs.specs.Entries.{sources_of}
use Rattle.kp_object_defs.specs.PortByKey.{info_at, info_in, port_keys_of}
use Rattle.kp_object_defs.specs.PortInfo as port
use Rattle.kp_object_defs.specs.PortInfo.{PortInfo, port_key_of}
use Rattle.kp_object_laws.specs.PortLaws.{InfoHasKey}
use Rattle.kp_blocks.specs.Joined.{is_port_of}
use Rattle.kp_writer_laws.specs.LocalLaws.{info_of, is_one_of}
use Rattle.kp_writer.specs.Known.{KnownOfService, port_keys_at}
use Rattle.kp_writer.proofs.OneList.{distinct_has}

-- ---- What names give, under their names

module _ (gives : PortKey → Option PortInfo)
    (names : (k : PortKey) (i : PortInfo) → gives k ≡ Some i → i.key ≡ k) (key : PortKey) where
  either_way : (b : Bool) {o : Option PortInfo} → o ≡ None → cond b o None ≡ o
  either_way true h = refl
  either_way false h = sym h

  given_by : (k : PortKey) (ks : List PortKey)
      → info_of (filter_map gives ks) key ≡ cond (is_one_of ks key) (gives key) None
      → (o : Option PortInfo) → gives k ≡ o → (b : Bool) → eq_by_cmp port_key_cmp key k ≡ b
      → info_of (cons_option o (filter_map gives ks)) key
      ≡ cond (b || is_one_of ks key) (gives key) None
  given_by k ks rest None at true is =
      rest
      ∙ either_way (is_one_of ks key) (ap gives (one_from_tie port_key_exact key k is) ∙ at)
  given_by k ks rest None at false is = rest
  given_by k ks rest (Some i) at true is =
      ap (λ l. cond (eq_by_cmp port_key_cmp key l) (Some i) (info_of (filter_map gives ks) key))
      (names k i at)
      ∙ ap (λ b. cond b (Some i) (info_of (filter_map gives ks) key)) is
      ∙ sym (ap gives (one_from_tie port_key_exact key k is) ∙ at)
  given_by k ks rest (Some i) at false is =
      ap (λ l. cond (eq_by_cmp port_key_cmp key l) (Some i) (info_of (filter_map gives ks) key))
      (names k i at)
      ∙ ap (λ b. cond b (Some i) (info_of (filter_map gives ks) key)) is
      ∙ rest

  given_of : (ks : List PortKey)
      → info_of (filter_map gives ks) key ≡ cond (is_one_of ks key) (gives key) None
  given_of [] = refl
  given_of (k ∷ ks) =
      given_by k ks (given_of ks) (gives k) refl (eq_by_cmp port_key_cmp key k) refl

-- ---- A port of a Service stands among the names of its ports

port_by : (s : Service) (key : PortKey) → s.key ≡ key.object → (p : ServicePort)
    → is_port key.port_name key.proto p ≡ true
    → eq_by_cmp port_key_cmp key (port_key_of s p) ≡ true
port_by s key own p is =
    let parts = and_parts (bytes_eq p.name key.port_name) (same_proto p.proto key.proto) is in
    ap (eq_by_cmp port_key_cmp key) (λ i. record {
      object = own i;
      port_name = (bytes_eq-Decides p.name _).0 parts.0 i;
      proto = same_proto_exact p.proto key.proto parts.1 i;
    })
    ∙ tie_of_itself port_key_total key

no_port : (s : Service) (key : PortKey) → s.key ≡ key.object → (ps : List ServicePort)
    → is_one_of (map (port_key_of s) ps) key ≡ false
    → list.find (is_port key.port_name key.proto) ps ≡ None
no_port s key own [] h = refl
no_port s key own (p ∷ ps) h =
    let parts = or_parts _ _ h in
    by (is_port key.port_name key.proto p) refl parts.0 (no_port s key own ps parts.1)
  where
    by : (b : Bool) → is_port key.port_name key.proto p ≡ b
        → eq_by_cmp port_key_cmp key (port_key_of s p) ≡ false
        → list.find (is_port key.port_name key.proto) ps ≡ None
        → list.find (is_port key.port_name key.proto) (p ∷ ps) ≡ None
    by true is other rest = absurd (true≢false (sym (port_by s key own p is) ∙ other))
    by false is other rest =
        ap (λ b. cond b (Some p) (list.find (is_port key.port_name key.proto) ps)) is ∙ rest

module _ (setting : Setting) (o : Objects) (key : PortKey) (its : AreUnderOwnKeys o) where
  abbrev known : PortKey → Option PortInfo
  known = info_at setting.family setting.config o

  -- of a name that no port of its Service has nothing is known
  unknown_by : (found : Option Service) → get o.services key.object ≡ found
      → is_one_of
      (distinct_in_order port_key_cmp (flat_map port_keys_of (option_to_list found))) key ≡ false
      → option_and_then (info_in setting.family setting.config o key) found ≡ None
  unknown_by None at h = refl
  unknown_by (Some s) at h =
      ap (option_and_then (λ p. port.info_of setting.family setting.config.node (zone_of o
      setting.config.node) (sources_of setting.family setting.config o s, p)))
      (no_port s key (its.services key.object s at) s.ports
      (ap (λ ks. is_one_of ks key) (sym (append-nil (port_keys_of s)))
      ∙ sym (distinct_has port_key_cmp port_key_total (port_keys_of s ++ []) key) ∙ h))

  module _ (service : ObjectKey) (of_it : is_port_of service key ≡ true) where
    known_by : (b : Bool) → is_one_of (port_keys_at o service) key ≡ b
        → cond b (known key) None ≡ known key
    known_by true h = refl
    known_by false h =
        sym (unknown_by (get o.services key.object) refl (ap (λ k. is_one_of (port_keys_at o k) key)
        (sym (one_from_tie key_exact service key.object of_it)) ∙ h))

pub known_of_service : InfoHasKey → KnownOfService
known_of_service has_key setting o service key its of_it =
    given_of (info_at setting.family setting.config o)
    (λ k i is. has_key setting.family setting.config o k i its is) key (port_keys_at o service)
    ∙ known_by setting o key its service of_it (is_one_of (port_keys_at o service) key) refl
