-- What the lists of UDP ports have before and after, by the ports of which something else is known.
use Rattle.std.proofs.Common.{◌≡◌, ℕ, ◌+◌, Bool, true, false, cond, not, ◌||◌, List, [], ◌∷◌, ◌++◌, map, filter, flat_map, count_by, Option, Some, None, is_some, refl, sym, ap, ◌∙◌, append-nil, arith}
use Rattle.std.specs.FinMap as finite
use Rattle.std.specs.FinMap.Entries.{is_some-find}
use Rattle.std.specs.List.{cons_option, filter_map, list_any}
use Rattle.std.specs.Ordering.{eq_by_cmp}
use Rattle.std.specs.Option.{option_eq}
use Rattle.std.proofs.lemmas.List.Folds.{flat_map-map, list_any-append}
use Rattle.std.proofs.lemmas.List.Sums.{sum_by-append}
use Rattle.std.proofs.Math.Bool.{or-true}
use Rattle.kp_lemmas.proofs.Equality.{options_exact}
use Rattle.kp_base.specs.Keys.{key_cmp, port_key_cmp}
use Rattle.kp_base.specs.Net.{same_family}
use Rattle.kp_base.specs.declared.address.Family.{Family}
use Rattle.kp_base.specs.declared.address.Family.TheVariants.{V4, V6}
use Rattle.kp_base.specs.declared.config.Config.{Config}
use Rattle.kp_base.specs.declared.key.Endpoint.{Endpoint}
use Rattle.kp_base.specs.declared.key.PortKey.{PortKey}
use Rattle.kp_table_laws.proofs.Entries.{found_distinct}
use Rattle.kp_base.proofs.KeyOrder.{port_key_total}
use Rattle.kp_types.specs.Setting.{FamilyConfig, Setting, both_families, config_for}
use Rattle.kp_choice_defs.specs.Settings.{setting_of}
use Rattle.kp_object_defs.specs.Desired.{is_empty}
use Rattle.kp_object_defs.specs.Objects.{Objects, no_objects, zone_of}
use Rattle.kp_object_defs.specs.Entries.{sources_of}
use Rattle.kp_lemmas.proofs.Entries.{empty_entries}
use Rattle.kp_base.specs.declared.key.ObjectKey.{ObjectKey}
use Rattle.kp_types.specs.declared.service.Service.{Service}
use Rattle.kp_object_defs.specs.Order.{distinct_in_order}
use Rattle.kp_object_defs.specs.OwnKeys.{AreUnderOwnKeys}
use Rattle.kp_object_defs.specs.PortByKey.{info_at, port_keys, port_keys_of}
use Rattle.kp_object_defs.specs.PortInfo.{PortInfo, infos_from, port_infos}
use Rattle.kp_object_laws.specs.PortLaws.{InfoHasKey, InfosByKeys}
use Rattle.kp_history_defs.specs.DirtyPorts.{dirty_keys, dirty_port, dirty_ports, keeps_info, same_info}
use Rattle.kp_history_defs.specs.Inputs.{ports_of_either}
use Rattle.kp_history_defs.specs.declared.dirty.DirtyPort.{DirtyPort}
use Rattle.kp_history_laws.specs.DirtyLaws.{InfosByName}
use Rattle.kp_history_laws.specs.EventLaws.{has_port}
use Rattle.kp_history_laws.proofs.DirtyPorts.{infos_exact}
use Rattle.kp_port_by_key.proofs.Sparse.{sparse, tells}
use Rattle.kp_track_defs.specs.Stands.{is_endpoint}
use Rattle.kp_udp_endpoints.specs.Changed.{AreKept}
use Rattle.kp_udp_endpoints.specs.Endpoints.{dirty_in, gone_of, listed_if, listed_in, lists_with, new_of, udp_listed}

-- the names of all ports, as often as they are given
abbrev names : Objects → List PortKey
names o = flat_map port_keys_of (finite.values o.services)

module _ (has_key : InfoHasKey) (by_keys : InfosByKeys) (by_name : InfosByName) (setting : Setting) where
  -- what is known of the port of a name
  abbrev known : Objects → PortKey → Option PortInfo
  known o key = info_at setting.family setting.config o key

  -- its endpoints
  abbrev at_key : Objects → PortKey → List Endpoint
  at_key o key = listed_if key (known o key)

  abbrev of_infos : List PortInfo → List Endpoint
  of_infos infos = flat_map (λ i. udp_listed i.key i) infos

  -- the names of what is known of ports
  abbrev named_by : List PortInfo → List PortKey
  named_by infos = map (λ e. e.0) (map {B = PortKey × PortInfo} (λ i. (i.key, i)) infos)

  module _ (o : Objects) (own : AreUnderOwnKeys o) where
    by_names : (keys : List PortKey)
        → of_infos (filter_map (known o) keys) ≡ flat_map (at_key o) keys
    by_names [] = refl
    by_names (key ∷ keys) = by (known o key) refl (by_names keys)
      where
        by : (info : Option PortInfo) → known o key ≡ info
            → of_infos (filter_map (known o) keys) ≡ flat_map (at_key o) keys
            → of_infos (cons_option info (filter_map (known o) keys))
            ≡ listed_if key info ++ flat_map (at_key o) keys
        by None is rest = rest
        by (Some i) is rest =
            λ j. udp_listed (has_key setting.family setting.config o key i own is j) i ++ rest j

    -- what is known has one of the names that were asked
    among_names : (key : PortKey) (keys : List PortKey)
        → has_port (named_by (filter_map (known o) keys)) key ≡ true → has_port keys key ≡ true
    among_names key [] h = h
    among_names key (k ∷ keys) h = by (known o k) refl (among_names key keys) h
      where
        here : (b : Bool) → (has_port (named_by (filter_map (known o) keys)) key ≡ true → has_port keys key ≡ true)
            → (b || has_port (named_by (filter_map (known o) keys)) key) ≡ true
            → (b || has_port keys key) ≡ true
        here true rest h = refl
        here false rest h = rest h

        by : (info : Option PortInfo) → known o k ≡ info
            → (has_port (named_by (filter_map (known o) keys)) key ≡ true → has_port keys key ≡ true)
            → has_port (named_by (cons_option info (filter_map (known o) keys))) key ≡ true
            → (eq_by_cmp port_key_cmp key k || has_port keys key) ≡ true
        by None is rest h = ap (λ b. eq_by_cmp port_key_cmp key k || b) (rest h) ∙ or-true _
        by (Some i) is rest h =
            let same = has_key setting.family setting.config o k i own is in
            here (eq_by_cmp port_key_cmp key k) rest
            (ap (λ n. eq_by_cmp port_key_cmp key n || has_port (named_by (filter_map (known o) keys)) key)
            (sym same) ∙ h)

    -- a port with endpoints is one of the objects
    named : (key : PortKey) → tells (at_key o) key ≡ true → has_port (names o) key ≡ true
    named key told = by (known o key) refl told
      where
        by : (info : Option PortInfo) → known o key ≡ info
            → not (is_empty (listed_if key info)) ≡ true → has_port (names o) key ≡ true
        by None is told = absurd (cc)
        by (Some i) is told =
            sym (found_distinct port_key_total key (names o))
            ∙ among_names key (port_keys o)
            (ap (λ infos. has_port (named_by infos) key)
            (sym (by_keys setting.family setting.config o own))
            ∙ sym (is_some-find port_key_cmp key (map (λ (i : PortInfo). (i.key, i)) (port_infos setting.family setting.config o)))
            ∙ ap is_some (by_name setting o key own ∙ is))

    -- the names of other ports may be given too
    among : (all : List PortKey)
        → ((key : PortKey) → has_port (names o) key ≡ true → has_port all key ≡ true)
        → of_infos (port_infos setting.family setting.config o)
        ≡ flat_map (at_key o) (distinct_in_order port_key_cmp all)
    among all there =
        ap of_infos (by_keys setting.family setting.config o own)
        ∙ by_names (port_keys o)
        ∙ sparse (at_key o) (names o) all (λ key told.
        let mine = named key told in
        mine ∙ sym (there key mine))

  module _ (before after : Objects) (e : Endpoint) where
    abbrev count : List Endpoint → ℕ
    count = count_by (is_endpoint e)

    abbrev dirty : PortKey → Bool
    dirty key = not (keeps_info setting before after key)

    more : (es fs : List Endpoint) → count (es ++ fs) ≡ count es + count fs
    more es fs = sum_by-append (λ x. cond (is_endpoint e x) 1 0) es fs

    -- ports that aren't dirty have the same lists
    kept_in : (keys : List PortKey)
        → AreKept (count (flat_map (at_key before) keys)) (count (flat_map (at_key after) keys))
        (count (flat_map (at_key before) (filter dirty keys)))
        (count (flat_map (at_key after) (filter dirty keys)))
    kept_in [] = record { kept = 0; before = refl; after = refl }
    kept_in (key ∷ keys) = by (keeps_info setting before after key) refl (kept_in keys)
      where
        by : (b : Bool) → keeps_info setting before after key ≡ b
            → AreKept (count (flat_map (at_key before) keys)) (count (flat_map (at_key after) keys))
            (count (flat_map (at_key before) (filter dirty keys)))
            (count (flat_map (at_key after) (filter dirty keys)))
            → AreKept (count (at_key before key ++ flat_map (at_key before) keys))
            (count (at_key after key ++ flat_map (at_key after) keys))
            (count (flat_map (at_key before) (cond (not b) (key ∷ filter dirty keys) (filter dirty keys))))
            (count (flat_map (at_key after) (cond (not b) (key ∷ filter dirty keys) (filter dirty keys))))
        by true is rest =
            let same : count (at_key before key) ≡ count (at_key after key)
            = ap (λ info. count (listed_if key info)) (options_exact same_info infos_exact
            (known before key) (known after key) is) in
            record {
              kept = count (at_key before key) + rest.kept;
              before =
                  more (at_key before key) (flat_map (at_key before) keys) ∙ omega (arith, rest.before);
              after =
                  more (at_key after key) (flat_map (at_key after) keys) ∙ omega (arith, rest.after, same);
            }
        by false is rest = record {
          kept = rest.kept;
          before =
              more (at_key before key) (flat_map (at_key before) keys) ∙ omega (
                arith,
                rest.before,
                more (at_key before key) (flat_map (at_key before) (filter dirty keys)),
              );
          after =
              more (at_key after key) (flat_map (at_key after) keys) ∙ omega (
                arith,
                rest.after,
                more (at_key after key) (flat_map (at_key after) (filter dirty keys)),
              );
        }

    module _ (own : AreUnderOwnKeys before) (own_after : AreUnderOwnKeys after) where
      either : (key : PortKey) → has_port (names before ++ names after) key
          ≡ (has_port (names before) key || has_port (names after) key)
      either key = list_any-append (eq_by_cmp port_key_cmp key) (names before) (names after)

      family_kept :
          AreKept (count (of_infos (port_infos setting.family setting.config before)))
          (count (of_infos (port_infos setting.family setting.config after)))
          (count (flat_map gone_of (dirty_ports setting before after)))
          (count (flat_map (new_of setting.family setting.config after) (dirty_ports setting before after)))
      family_kept =
          let of = kept_in (ports_of_either before after) in
          let all = names before ++ names after in
          let was = among before own all (λ key has. either key ∙ ap (λ b. b || has_port (names after) key) has) in
          let now = among after own_after all (λ key has. either key ∙ ap (λ b. has_port (names before) key || b) has ∙ or-true _) in
          let keys = dirty_keys setting before after in
          record {
            kept = of.kept;
            before = ap count was ∙ of.before
                ∙ ap (λ n. of.kept + count n) (sym (flat_map-map gone_of (dirty_port setting before) keys));
            after = ap count now ∙ of.after
                ∙ ap (λ n. of.kept + count n) (sym (flat_map-map (new_of setting.family setting.config after) (dirty_port setting before) keys));
          }

-- ---- In both families

module _ (has_key : InfoHasKey) (by_keys : InfosByKeys) (by_name : InfosByName) (config : Config) (before after : Objects)
    (own : AreUnderOwnKeys before) (own_after : AreUnderOwnKeys after) (e : Endpoint) where
  abbrev tally : List Endpoint → ℕ
  tally = count_by (is_endpoint e)

  abbrev both : (es fs : List Endpoint) → tally (es ++ fs) ≡ tally es + tally fs
  both es fs = sum_by-append (λ x. cond (is_endpoint e x) 1 0) es fs

  abbrev families : Bool → List Family
  families dual = cond dual both_families (V4 ∷ [])

  -- the dirty ports of a family, where it is one of these
  abbrev dirty_of : Bool → Family → List DirtyPort
  dirty_of dual family =
      cond (list_any (same_family family) (families dual))
      (dirty_ports (setting_of family config) before after) []

  -- their endpoints, before and after
  abbrev gone_in : List DirtyPort → List Endpoint
  gone_in ports = flat_map gone_of ports

  abbrev new_in : Family → List DirtyPort → List Endpoint
  new_in family ports = flat_map (new_of family (config_for family config) after) ports

  of_family : (family : Family) → (let ports = dirty_ports (setting_of family config) before after in
      AreKept (tally (listed_in config before family)) (tally (listed_in config after family))
      (tally (gone_in ports)) (tally (new_in family ports)))
  of_family family =
      family_kept has_key by_keys by_name (setting_of family config) before after e own own_after

  kept_by : (dual : Bool)
      → AreKept (tally (flat_map (listed_in config before) (families dual)))
      (tally (flat_map (listed_in config after) (families dual)))
      (tally (gone_in (dirty_of dual V4) ++ gone_in (dirty_of dual V6)))
      (tally (new_in V4 (dirty_of dual V4) ++ new_in V6 (dirty_of dual V6)))
  kept_by true =
      let four = of_family V4 in
      let six = of_family V6 in
      let ports : Family → List DirtyPort =
      λ family. dirty_ports (setting_of family config) before after in
      record {
        kept = four.kept + six.kept;
        before =
            both (listed_in config before V4) (listed_in config before V6 ++ [])
            ∙ ap (λ es. tally (listed_in config before V4) + tally es) (append-nil (listed_in config before V6))
            ∙ omega (arith, four.before, six.before, both (gone_in (ports V4)) (gone_in (ports V6)));
        after =
            both (listed_in config after V4) (listed_in config after V6 ++ [])
            ∙ ap (λ es. tally (listed_in config after V4) + tally es) (append-nil (listed_in config after V6))
            ∙ omega (arith, four.after, six.after, both (new_in V4 (ports V4)) (new_in V6 (ports V6)));
      }
  kept_by false =
      let four = of_family V4 in
      let ports = dirty_ports (setting_of V4 config) before after in
      record {
        kept = four.kept;
        before =
            ap tally (append-nil (listed_in config before V4)) ∙ four.before
            ∙ ap (λ es. four.kept + tally es) (sym (append-nil (gone_in ports)));
        after =
            ap tally (append-nil (listed_in config after V4)) ∙ four.after
            ∙ ap (λ es. four.kept + tally es) (sym (append-nil (new_in V4 ports)));
      }

  pub all_kept :
      AreKept (lists_with config before e) (lists_with config after e)
      (tally (gone_in (dirty_in config before after V4) ++ gone_in (dirty_in config before after V6)))
      (tally (new_in V4 (dirty_in config before after V4)
      ++ new_in V6 (dirty_in config before after V6)))
  all_kept = kept_by config.dual

-- ---- Without objects

no_infos : (family : Family) (config : FamilyConfig) → port_infos family config no_objects ≡ []
no_infos family config =
    ap (λ services. infos_from family config.node (zone_of no_objects config.node)
    (map (sources_of family config no_objects) (map (λ (s : ObjectKey × Service). s.1) services)))
    (empty_entries {X = Service} key_cmp)

-- no list has an endpoint
pub none_listed : (config : Config) (e : Endpoint) → lists_with config no_objects e ≡ 0
none_listed config e = by config.dual
  where
    none : (family : Family) → listed_in config no_objects family ≡ []
    none family = ap (flat_map (λ i. udp_listed i.key i)) (no_infos family (config_for family config))

    by : (dual : Bool)
        → count_by (is_endpoint e)
        (flat_map (listed_in config no_objects) (cond dual both_families (V4 ∷ []))) ≡ 0
    by true = λ i. count_by (is_endpoint e) (none V4 i ++ (none V6 i ++ []))
    by false = λ i. count_by (is_endpoint e) (none V4 i ++ [])
