-- The rows of a port, from those by the endpoints' names.
use Rattle.std.proofs.Common.{◌≡◌, Bool, true, false, cond, not, List, [], ◌∷◌, ◌++◌, map, Some, None, refl, sym, ap, ◌∙◌, append_assoc}
use Rattle.std.specs.List.{filter}
use Rattle.std.proofs.lemmas.Simd.{map-map}
use Rattle.std.proofs.lemmas.List.{map-append}
use Rattle.kp_base.specs.declared.address.Family.{Family}
use Rattle.kp_base.specs.declared.config.Config.{Config}
use Rattle.kp_base.specs.declared.key.Endpoint.{Endpoint}
use Rattle.kp_types.specs.Places.{nat_of}
use Rattle.kp_types.specs.Setting.{Setting}
use Rattle.kp_types.specs.declared.chain.ChainAt.{ChainAt}
use Rattle.kp_types.specs.declared.chain.ChainKey.{ChainKey}
use Rattle.kp_types.specs.declared.chain.ChainKey.TheVariants as key
use Rattle.kp_types.specs.declared.chain.PortChain.{PortChain}
use Rattle.kp_types.specs.declared.chain.PortChain.TheVariants.{Svc, Svl, Ext, Fw}
use Rattle.kp_types.specs.declared.rule.Rule.{Rule}
use Rattle.kp_choice_defs.specs.Settings.{setting_of}
use Rattle.kp_object_defs.specs.Lists.{is_local_policy}
use Rattle.kp_object_defs.specs.PortInfo.{PortInfo}
use Rattle.kp_table_defs.specs.Keys.{all_endpoints, has_endpoint, needed_kinds}
use Rattle.kp_table_defs.specs.Layout as layout
use Rattle.kp_table_defs.specs.Layout.{row, port_chain, row_of_key}
use Rattle.kp_chains.specs.Named.{name_of_endpoint, named_by, seen_rules, list_rules, kind_row, not_among, endpoint_row}
use Rattle.kp_chains.specs.declared.named.NamedEndpoint.{NamedEndpoint}
use Rattle.kp_chains.proofs.ChoiceSteps.{choices_are}

filtered : {A B : Type 0} (f : A → B) (test : B → Bool) (x : A) (xs : List A) (b : Bool) → test (f x) ≡ b
    → filter test (map f xs) ≡ map f (filter (λ y. test (f y)) xs)
    → cond b (f x ∷ filter test (map f xs)) (filter test (map f xs))
    ≡ map f (cond b (x ∷ filter (λ y. test (f y)) xs) (filter (λ y. test (f y)) xs))
filtered f test x xs true h rest = ap (λ ys. f x ∷ ys) rest
filtered f test x xs false h rest = rest

filter_named : {A B : Type 0} (f : A → B) (test : B → Bool) (xs : List A)
    → filter test (map f xs) ≡ map f (filter (λ y. test (f y)) xs)
filter_named f test [] = refl
filter_named f test (x ∷ xs) = filtered f test x xs (test (f x)) refl (filter_named f test xs)

module _ (family : Family) (config : Config) (i : PortInfo) where
  abbrev setting : Setting
  setting = setting_of family config

  abbrev pub named : List Endpoint → List NamedEndpoint
  named es = map (named_by (name_of_endpoint config i)) es

  seen_are : (affinity : _) (es : List Endpoint)
      → seen_rules affinity (named es) ≡ layout.affinity_rules (layout.endpoint_chain setting i) affinity es
  seen_are None es = refl
  seen_are (Some seconds) es = map-map _ (named_by (layout.endpoint_chain setting i)) es

  list_is : (is_internal : Bool) (es : List Endpoint)
      → list_rules setting i is_internal (named es) ≡ layout.list_rules setting i is_internal es
  list_is is_internal es =
      (λ k. layout.rules_if is_internal (layout.mark_rules setting.config.masquerade_all setting.config.cluster i)
      ++ seen_are i.affinity es k ++ choices_are (layout.endpoint_chain setting i) es k)

  kind_is : (kind : PortChain)
      → kind_row setting i (named i.lists.cluster) (named i.lists.local) kind
      ≡ row_of_key setting i (key.Port kind i.key)
  kind_is Svc =
      ap (row (nat_of family) (port_chain setting i Svc))
      (list_is (not (is_local_policy i.internal)) i.lists.cluster)
  kind_is Svl =
      ap (row (nat_of family) (port_chain setting i Svl)) (list_is (is_local_policy i.internal) i.lists.local)
  kind_is Ext = refl
  kind_is Fw = refl

  abbrev own_row : Endpoint → ChainAt × List Rule
  own_row e = row (nat_of family) (layout.endpoint_chain setting i e) (layout.endpoint_rules setting i e)

  endpoints_are : (es : List Endpoint) → map (endpoint_row family i) (named es) ≡ map own_row es
  endpoints_are es = map-map (endpoint_row family i) (named_by (layout.endpoint_chain setting i)) es

  others_are : (cs es : List Endpoint)
      → not_among cs (named es) ≡ named (filter (λ e. not (has_endpoint cs e)) es)
  others_are cs es =
      filter_named (named_by (layout.endpoint_chain setting i)) (λ e. not (has_endpoint cs e.endpoint)) es

  all_are : (cs es : List Endpoint)
      → map (endpoint_row family i) (named cs) ++ map (endpoint_row family i) (not_among cs (named es))
      ≡ map own_row (cs ++ filter (λ e. not (has_endpoint cs e)) es)
  all_are cs es =
      (λ k. endpoints_are cs k ++ (ap (map (endpoint_row family i)) (others_are cs es) ∙ endpoints_are (filter (λ e. not (has_endpoint cs e)) es)) k)
      ∙ sym (map-append own_row cs (filter (λ e. not (has_endpoint cs e)) es))

  -- three groups of chains, one after another, are the port's
  pub port_rows_are : (cluster local : List NamedEndpoint) (a b c : List (ChainAt × List Rule))
      → cluster ≡ named i.lists.cluster → local ≡ named i.lists.local
      → a ≡ map (kind_row setting i cluster local) (needed_kinds i)
      → b ≡ a ++ map (endpoint_row family i) cluster
      → c ≡ b ++ map (endpoint_row family i) (not_among i.lists.cluster local)
      → c ≡ layout.port_rows setting i
  port_rows_are cluster local a b c named_cluster named_local first second third =
      let kinds = needed_kinds i in
      let all = all_endpoints i in
      let of_kind : PortChain → ChainKey = λ kind. key.Port kind i.key in
      third
      ∙ ap (λ r. r ++ map (endpoint_row family i) (not_among i.lists.cluster local)) second
      ∙ append_assoc a (map (endpoint_row family i) cluster)
      (map (endpoint_row family i) (not_among i.lists.cluster local))
      ∙ (λ k. first k ++ (map (endpoint_row family i) (named_cluster k)
      ++ map (endpoint_row family i) (not_among i.lists.cluster (named_local k))))
      ∙ (λ k. map (kind_row setting i (named_cluster k) (named_local k)) kinds
      ++ all_are i.lists.cluster i.lists.local k)
      ∙ (λ k. map (λ kind. kind_is kind k) kinds ++ map own_row all)
      ∙ (λ k. sym (map-map (row_of_key setting i) of_kind kinds) k
      ++ sym (map-map (row_of_key setting i) (key.Sep i.key) all) k)
      ∙ sym (map-append (row_of_key setting i) (map of_kind kinds) (map (key.Sep i.key) all))
