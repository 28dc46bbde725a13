-- The targets of rules for UDP in a full table are the endpoints that stand.
use Rattle.std.proofs.Common.{◌≡◌, ℕ, ◌==◌, Bool, true, false, true≢false, not, cond, ◌&&◌, ◌||◌, List, [], ◌∷◌, ◌++◌, map, Contains, Option, Some, None, option_and_then, is_some, refl, sym, ap, ◌∙◌, subst, inl, inr}
use Rattle.std.specs.FinMap.{contains_key-keys, find, get, get-from_entries, keys}
use Rattle.std.specs.List.{cons_option, filter, filter_map, flat_map, list_any}
use Rattle.std.specs.Ordering.{eq_by_cmp}
use Rattle.std.proofs.lemmas.Bool.{and_from, and_parts, or_left, or_right}
use Rattle.std.proofs.lemmas.List.Elements.{Contains-append_cases, Contains-append_left, Contains-append_right}
use Rattle.std.proofs.lemmas.Map.Views.{Contains-from_any}
use Rattle.std.proofs.lemmas.Option.{same_Some}
use Rattle.kp_lemmas.proofs.Members.{any_from, first_in, from_all, from_filter, from_flat_map, from_map, in_cases, in_flat_map, later_in, none_in, passing}
use Rattle.kp_lemmas.proofs.Orders.{one_from_tie}
use Rattle.kp_base.proofs.SameParts.{family_itself}
use Rattle.kp_base.specs.Keys.{same_proto}
use Rattle.kp_base.specs.Net.{same_family}
use Rattle.kp_base.specs.declared.address.Family.{Family}
use Rattle.kp_base.specs.declared.address.Family.TheVariants.{V4, V6}
use Rattle.kp_base.specs.declared.config.Config.{Config}
use Rattle.kp_base.specs.declared.key.Endpoint.{Endpoint}
use Rattle.kp_base.specs.declared.key.PortKey.{PortKey}
use Rattle.kp_base.specs.declared.port.Proto.{Proto}
use Rattle.kp_base.specs.declared.port.Proto.TheVariants.{Udp}
use Rattle.kp_types.specs.Places.{chain_cmp, nat_of}
use Rattle.kp_types.specs.Setting.{Setting, Settings, config_for, has_tables_of, table_families, view_of}
use Rattle.kp_types.specs.declared.chain.ChainAt.{ChainAt}
use Rattle.kp_types.specs.declared.chain.ChainKey.{ChainKey}
use Rattle.kp_types.specs.declared.chain.ChainKey.TheVariants as key
use Rattle.kp_types.specs.declared.chain.PortChain.{PortChain}
use Rattle.kp_types.specs.declared.rule.Rule.{Rule}
use Rattle.kp_types.proofs.ChainOrder.{chain_exact, chain_total}
use Rattle.kp_types.proofs.TableFamilies.{nat_is_own}
use Rattle.kp_choice_defs.specs.Settings.{settings_of}
use Rattle.kp_object_defs.specs.Objects.{Objects}
use Rattle.kp_object_defs.specs.PortInfo.{PortInfo, infos_by_family, port_infos}
use Rattle.kp_table_defs.specs.Keys as own
use Rattle.kp_table_defs.specs.Layout.{endpoint_chain, endpoint_rules, filter_rows, nat_rows, port_rows, row_of_key, rows_of, rules_of_key, rules_of_kind, set_seen}
use Rattle.kp_table_defs.specs.Rebuild.{Chains, clash_of, full_table, rows_of_families}
use Rattle.kp_table_laws.proofs.Families.{family_stands_alone}
use Rattle.kp_table_laws.proofs.FamilyClash.{no_clash_in_families}
use Rattle.kp_table_laws.proofs.KeyRows.{Row, row_key}
use Rattle.kp_walk_laws.proofs.KnownPorts.{port_keys_once_by}
use Rattle.kp_walk_laws.proofs.PortLookups.{finds_chains, in_either}
use Rattle.kp_walk_laws.proofs.Ranked.{hashed_prefixed_by}
use Rattle.kp_types.specs.declared.service.Policy.TheVariants.{Cluster, Local}
use Rattle.kp_track_defs.specs.Kept.{kept_after_sync, without_endpoints}
use Rattle.kp_track_defs.specs.Stands.{has_endpoint, has_in_lists, is_endpoint, stands_by, stands_in}
use Rattle.kp_track_defs.specs.TrackLaws.{KeptClears}
use Rattle.kp_conntrack.specs.Standing.{is_nat, is_udp, table_stands, udp_target, udp_targets, udp_targets_at, udp_targets_of}
use Rattle.kp_udp_endpoints.proofs.Fallen.{fallen_lose}
use Rattle.kp_udp_endpoints.proofs.Same.{exact}
use Rattle.kp_track_laws.specs.StandingLaws.{ClearedAsSettled, TargetsStand}
use Rattle.kp_track_laws.proofs.Sent.{both_lists, itself, listed}
use Rattle.kp_track_laws.proofs.Still.{filter_beside, is_beside, is_still_row, none_sent, still_kind, still_nat}

-- ---- The targets of rules

-- what a source is put into asks for no protocol
no_proto : (name : List ℕ) (affinity : Option ℕ) → list_any is_udp (set_seen name affinity) ≡ false
no_proto name None = refl
no_proto name (Some seconds) = refl

-- the chain of an endpoint of UDP has this one target
sep_targets : (setting : Setting) (i : PortInfo) (e : Endpoint)
    → filter_map udp_target (endpoint_rules setting i e)
    ≡ cond (same_proto i.key.proto Udp) (e ∷ []) []
sep_targets setting i e =
    ap (λ b. cons_option (cond (same_proto i.key.proto Udp || b) (Some e) None) [])
    (no_proto (endpoint_chain setting i e) i.affinity)
    ∙ by (same_proto i.key.proto Udp)
  where
    by : (udp : Bool) → cons_option (cond (udp || false) (Some e) None) [] ≡ cond udp (e ∷ []) []
    by true = refl
    by false = refl

-- the endpoint of a chain, or this one
abbrev endpoint_or : Endpoint → ChainKey → Endpoint
endpoint_or other (key.Port kind port) = other
endpoint_or other (key.Sep port e) = e

of_both : (i : PortInfo) (e : Endpoint) → Contains (own.all_endpoints i) e → Contains (both_lists i) e
of_both i e c =
    elim (Contains-append_cases i.lists.cluster (filter (λ (f : Endpoint). not (own.has_endpoint i.lists.cluster f)) i.lists.local) e c) [
      | inl there ↦ Contains-append_left i.lists.cluster i.lists.local e there
      | inr there ↦ Contains-append_right i.lists.cluster i.lists.local e
          (from_filter (λ (f : Endpoint). not (own.has_endpoint i.lists.cluster f)) e i.lists.local there).0
    ]

-- a port has chains for endpoints of its lists alone
own_endpoint_listed : (i : PortInfo) (port : PortKey) (e : Endpoint)
    → Contains (own.own_keys i) (key.Sep port e) → Contains (both_lists i) e
own_endpoint_listed i port e c =
    elim (Contains-append_cases (map (λ (kind : PortChain). key.Port kind i.key) (own.needed_kinds i)) (map (key.Sep i.key) (own.all_endpoints i)) (key.Sep port e) c) [
      | inl of_kind ↦
          let (kind, there, is) = from_map (λ (kind : PortChain). key.Port kind i.key) (key.Sep port e) (own.needed_kinds i) of_kind in
          absurd (cc)
      | inr of_endpoint ↦
          let (f, there, is) = from_map (key.Sep i.key) (key.Sep port e) (own.all_endpoints i) of_endpoint in
          subst (Contains (both_lists i)) (ap (endpoint_or f) is) (of_both i f there)
    ]

-- a port's chains send UDP to endpoints alone that are in its lists, where it is one of UDP
key_targets : (setting : Setting) (i : PortInfo) (k : ChainKey) (e : Endpoint) → Contains (own.own_keys i) k
    → Contains (filter_map udp_target (rules_of_key setting i k)) e → has_in_lists e i ≡ true
key_targets setting i (key.Port kind port) e ck c =
    absurd (none_in e (subst (λ es. Contains es e) (none_sent (rules_of_kind setting i kind) (still_kind setting i kind).all) c))
key_targets setting i (key.Sep port f) e ck c =
    by (same_proto i.key.proto Udp) refl (subst (λ es. Contains es e) (sep_targets setting i f) c)
  where
    by : (udp : Bool) → same_proto i.key.proto Udp ≡ udp → Contains (cond udp (f ∷ []) []) e
        → has_in_lists e i ≡ true
    by true udp there =
        elim (in_cases e f [] there) [
          | inl same ↦ and_from _ _ udp (listed i e (subst (Contains (both_lists i)) same (own_endpoint_listed i port f ck)))
          | inr none ↦ absurd (none_in e none)
        ]
    by false udp there = absurd (none_in e there)

row_targets : (setting : Setting) (infos : List PortInfo) (r : Row) → Contains (rows_of setting infos) r
    → is_nat r.0.table ≡ true → (e : Endpoint) → Contains (filter_map udp_target r.1) e
    → stands_in infos e ≡ true
row_targets setting infos r c nat e sent =
    elim (Contains-append_cases (nat_rows setting infos) (filter_rows setting.family infos ++ flat_map (port_rows setting) infos) r c) [
      | inl fixed ↦
          absurd (none_in e (subst (λ es. Contains es e)
          (none_sent r.1 (from_all is_still_row (nat_rows setting infos) (still_nat setting infos).all r fixed)) sent))
      | inr others ↦
          elim (Contains-append_cases (filter_rows setting.family infos) (flat_map (port_rows setting) infos) r others) [
            | inl beside ↦
                absurd (true≢false (sym (from_all is_beside (filter_rows setting.family infos) (filter_beside setting.family infos) r beside)
                ∙ ap not nat))
            | inr of_port ↦
                let (i, ci, (k, ck, is)) = row_key setting infos r of_port in
                any_from (has_in_lists e) i infos ci
                (key_targets setting i k e ck
                (subst (λ (s : Row). Contains (filter_map udp_target s.1) e) (sym is) sent))
          ]
    ]

-- a row that is found stands among the rows
among : (q : ChainAt) (rules : List Rule) (rows : List Row) → find chain_cmp q rows ≡ Some rules
    → Contains rows (q, rules)
among q rules [] h = absurd (cc)
among q rules (r ∷ rows) h = by (eq_by_cmp chain_cmp q r.0) refl h (among q rules rows)
  where
    by : (b : Bool) → eq_by_cmp chain_cmp q r.0 ≡ b
        → cond b (Some r.1) (find chain_cmp q rows) ≡ Some rules
        → (find chain_cmp q rows ≡ Some rules → Contains rows (q, rules))
        → Contains (r ∷ rows) (q, rules)
    by true tie e later =
        let same : r ≡ (q, rules) =
        λ i. (sym (one_from_tie chain_exact q r.0 tie) i, same_Some r.1 rules e i) in
        subst (Contains (r ∷ rows)) same (first_in r rows)
    by false tie e later = later_in (q, rules) r rows (later e)

nat_is_nat : (family : Family) → is_nat (nat_of family) ≡ true
nat_is_nat V4 = refl
nat_is_nat V6 = refl

in_list : (e : Endpoint) (es : List Endpoint) → has_endpoint e es ≡ true → Contains es e
in_list e es h =
    let (f, there, same) = passing (λ (other : Endpoint). is_endpoint other e) es h in
    subst (Contains es) (exact f e same) there

in_lists : (i : PortInfo) (e : Endpoint) (b : Bool) → has_endpoint e i.lists.cluster ≡ b
    → (b || has_endpoint e i.lists.local) ≡ true → Contains (own.all_endpoints i) e
in_lists i e true cluster h = in_either i Cluster e (in_list e i.lists.cluster cluster)
in_lists i e false cluster h = in_either i Local e (in_list e i.lists.local h)

same_truth : (a b : Bool) → (a ≡ true → b ≡ true) → (b ≡ true → a ≡ true) → a ≡ b
same_truth true b f g = sym (f refl)
same_truth false true f g = g refl
same_truth false false f g = refl

-- ---- The full table of some objects

module _ (config : Config) (o : Objects) (e : Endpoint) where
  abbrev settings : Settings
  settings = settings_of config

  abbrev chains : Chains
  chains = (full_table settings o).chains

  abbrev infos : Family → List PortInfo
  infos = infos_by_family settings o

  abbrev stands_of : Family → Bool
  stands_of family = stands_in (port_infos family (config_for family config) o) e

  by_rules : (at : ChainAt) → is_nat at.table ≡ true → (found : Option (List Rule))
      → get chains at ≡ found → Contains (udp_targets_of found) e → stands_by config o e ≡ true
  by_rules at nat None is c = absurd (none_in e c)
  by_rules at nat (Some rules) is c =
      let rows = rows_of_families settings infos in
      let there = among at rules rows (sym (get-from_entries chain_total rows at) ∙ is) in
      let (family, cf, cr) = from_flat_map (λ (family : Family). rows_of (view_of family settings) (infos family)) (at, rules) settings.families there in
      any_from stands_of family (table_families config) cf
      (row_targets (view_of family settings) (infos family) (at, rules) cr nat e c)

  by_table : (at : ChainAt) (b : Bool) → is_nat at.table ≡ b
      → Contains (cond b (udp_targets_of (get chains at)) []) e → stands_by config o e ≡ true
  by_table at true nat c = by_rules at nat (get chains at) refl c
  by_table at false nat c = absurd (none_in e c)

  -- a target stands
  stands : table_stands chains e ≡ true → stands_by config o e ≡ true
  stands h =
      let (f, there, same) = passing (is_endpoint e) (udp_targets chains) h in
      let (at, known, sent) = from_flat_map (udp_targets_at chains) f (keys chains) there in
      by_table at (is_nat at.table) refl
      (subst (Contains (udp_targets_at chains at)) (sym (exact e f same)) sent)

  module _ (clash : clash_of settings o ≡ None) where
    of_port : (family : Family) → Contains (table_families config) family → (i : PortInfo)
        → Contains (infos family) i → has_in_lists e i ≡ true → table_stands chains e ≡ true
    of_port family cf i ci has =
        let parts = and_parts (same_proto i.key.proto Udp) (has_endpoint e i.lists.cluster || has_endpoint e i.lists.local) has in
        let ce = in_lists i e (has_endpoint e i.lists.cluster) refl parts.1 in
        let setting = view_of family settings in
        let tables : has_tables_of family settings ≡ true = any_from (same_family family) family (table_families config) cf (family_itself family) in
        let apart = (no_clash_in_families settings infos).0 clash family tables in
        let own_names = port_keys_once_by family (config_for family config) o in
        let finds = (finds_chains setting (infos family) (hashed_prefixed_by config.name_length) own_names apart i ci).endpoint e ce in
        let at : ChainAt = record { table = nat_of family; chain = endpoint_chain setting i e } in
        let got : get chains at ≡ Some (endpoint_rules setting i e) = family_stands_alone settings infos family tables at (nat_is_own family) ∙ finds in
        let keyed : Contains (keys chains) at = Contains-from_any (one_from_tie chain_exact) at (keys chains) (sym (contains_key-keys chains at) ∙ ap is_some got) in
        let sent : udp_targets_at chains at ≡ e ∷ [] =
        ap (λ b. cond b (udp_targets_of (get chains at)) []) (nat_is_nat family)
        ∙ ap udp_targets_of got ∙ sep_targets setting i e ∙ ap (λ b. cond b (e ∷ []) []) parts.0 in
        any_from (is_endpoint e) e (udp_targets chains)
        (in_flat_map (udp_targets_at chains) at e (keys chains) keyed (subst (λ es. Contains es e) (sym sent) (first_in e [])))
        (itself e)

    -- and what stands is a target
    is_target : stands_by config o e ≡ true → table_stands chains e ≡ true
    is_target h =
        let (family, cf, of_family) = passing stands_of (table_families config) h in
        let (i, ci, has) = passing (has_in_lists e) (port_infos family (config_for family config) o) of_family in
        of_port family cf i ci has

pub targets_stand : TargetsStand
targets_stand config o e clash = same_truth _ _ (stands config o e) (is_target config o e clash)

pub cleared_as_settled : KeptClears → ClearedAsSettled
cleared_as_settled clears config before after k fallen clash stood fell =
    clears k (stands_by config after) fallen
    (fallen_lose (stands_by config before) (stands_by config after) fallen fell k.entries stood)
    ∙ (λ i. kept_after_sync (λ e. sym (targets_stand config after e clash) i) k)
