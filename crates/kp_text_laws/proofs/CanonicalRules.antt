-- Each rule of the full table has a text of its own.
use Rattle.std.proofs.Common.{◌≡◌, ℕ, suc, ◌+◌, ◌/◌, ◌%◌, ◌^◌, ◌≤◌, ◌==◌, ◌&&◌, Bool, true, false, not, nat_lt, nat_le, List, [], ◌∷◌, map, length, Contains, Option, Some, None, flat_map, refl, arith}
use Rattle.std.specs.List.{list_all, filter}
use Rattle.std.proofs.Math.Nat.{div-le_of_le-mul}
use Rattle.std.proofs.lemmas.Bool.{and_from, and_parts}
use Rattle.std.proofs.lemmas.Bool.Decides.{nat_tests}
use Rattle.kp_lemmas.proofs.Members.{from_all}
use Rattle.kp_lemmas.proofs.ListFacts.{test_append}
use Rattle.kp_choice_defs.proofs.Rounding.{half_even_le}
use Rattle.kp_object_defs.proofs.AllOf.{all_filter}
use Rattle.kp_base.specs.Net.{AddressParts, RangeParts, same_family, width, range_size, single_range, loopback_range}
use Rattle.kp_base.specs.declared.address.Family.{Family}
use Rattle.kp_base.specs.declared.address.Family.TheVariants.{V4, V6}
use Rattle.kp_base.specs.declared.key.Endpoint.{Endpoint}
use Rattle.kp_types.specs.Chains.{is_chain_name}
use Rattle.kp_types.specs.Rules.{rule_of}
use Rattle.kp_types.specs.Setting.{Setting}
use Rattle.kp_types.specs.declared.chain.ChainKey.{ChainKey}
use Rattle.kp_types.specs.declared.chain.ChainKey.TheVariants as key
use Rattle.kp_types.specs.declared.chain.PortChain.{PortChain}
use Rattle.kp_types.specs.declared.chain.PortChain.TheVariants.{Svc, Svl, Ext, Fw}
use Rattle.kp_types.specs.declared.rule.Match.{Match}
use Rattle.kp_types.specs.declared.rule.Match.TheVariants as match
use Rattle.kp_types.specs.declared.rule.Rule.{Rule}
use Rattle.kp_types.specs.declared.rule.Target.{Target}
use Rattle.kp_types.specs.declared.rule.Target.TheVariants as target
use Rattle.kp_types.specs.declared.service.Policy.{Policy}
use Rattle.kp_types.specs.declared.service.Policy.TheVariants.{Cluster, Local}
use Rattle.kp_choice_defs.specs.Draws.{half_even, probability_of}
use Rattle.kp_object_defs.specs.Desired.{is_empty}
use Rattle.kp_object_defs.specs.PortInfo.{PortInfo, internal_list, external_list}
use Rattle.kp_table_defs.specs.Keys.{all_endpoints, has_endpoint, has_firewall, own_keys}
use Rattle.kp_table_defs.specs.Layout.{mark_masq, kube_node_ports, port_chain, endpoint_chain, chain_of_policy, jump_to, rule_at, choice_rules, affinity_rules, mark_rules, list_rules, set_seen, endpoint_rules, pod_rules, external_rules, balancer_chain, service_block, node_port_rules, node_port_block, firewall_block, refusal_target, own_addresses, node_port_refusal, external_block, refusal_block, nat_rows_with, nat_rows, filter_rows_with, filter_rows, firewall_chain_rules, port_rows, row_of_key, rows_of, rules_of_key, rules_of_kind}
use Rattle.kp_restore_defs.specs.RuleText.{is_canonical_address, is_canonical_range, is_canonical_endpoint, is_canonical_match, is_canonical_target, is_canonical_rule, is_port_number}
use Rattle.kp_table_laws.proofs.KeyRows.{Row}
use Rattle.kp_table_laws.proofs.NeededKeys.{key_cases}
use Rattle.kp_walk_laws.proofs.Passing.{Pass, pass_none, pass_first, pass_one, pass_both, pass_map, pass_pieces, pass_if}
use Rattle.kp_text_laws.specs.Bounds.{passes_if_some, is_timeout, IsBoundedInfo}

-- ---- Matches

single_by : (family f : Family) (n : ℕ)
    → (same_family f family && nat_lt n (2 ^ width family)) ≡ true
    → ((same_family f family && nat_lt n (2 ^ width family))
    && (nat_le (width f) (width family) && (n % range_size family (width f) == 0))) ≡ true
single_by V4 V4 n h = and_from (nat_lt n (2 ^ 32)) _ h (whole n)
  where
    whole : (n : ℕ) → (n % 1 == 0) ≡ true
    whole n = grind (arith, nat_tests)
single_by V6 V6 n h = and_from (nat_lt n (2 ^ 128)) _ h (whole n)
  where
    whole : (n : ℕ) → (n % 1 == 0) ≡ true
    whole n = grind (arith, nat_tests)
single_by V4 V6 n h = absurd (cc)
single_by V6 V4 n h = absurd (cc)

-- the loopback range is a range
loopback_fits : (family : Family) → is_canonical_range family (loopback_range family) ≡ true
loopback_fits V4 = refl
loopback_fits V6 = refl

-- a chance is a probability
chance_fits : (n : ℕ) → nat_le (probability_of (suc (suc n))) (10 ^ 10) ≡ true
chance_fits n =
    let m : ℕ = suc (suc n) in
    let half : 10000000000 / m ≤ 5000000000 = div-le_of_le-mul m (omega arith) in
    let near : half_even 10000000000 m ≤ 10000000000 / m + 1 =
    half_even_le 10000000000 m in
    let small : probability_of m ≤ 10000000000 = omega (arith, half, near) in
    grind (arith, nat_tests, small)

module _ (family : Family) where
  -- rules that have texts of their own
  abbrev pub Fit : List Rule → Type 0
  Fit rules = Pass (is_canonical_rule family) rules

  -- matches that do
  abbrev MatchesFit : List Match → Type 0
  MatchesFit matches = Pass (is_canonical_match family) matches

  -- the range of an address is a range
  single_fits : (a : AddressParts) → is_canonical_address family a ≡ true
      → is_canonical_range family (single_range a) ≡ true
  single_fits a h = single_by family a.family a.number h

  rule_fits : (matches : List Match) (t : Target) → nat_le (length matches) 4 ≡ true
      → MatchesFit matches → is_canonical_target family t ≡ true
      → is_canonical_rule family (rule_of matches t) ≡ true
  rule_fits matches t few h g = and_from _ _ few (and_from _ _ h.all g)

  -- a rule before others
  fit_first : {matches : List Match} {t : Target} {rules : List Rule}
      → nat_le (length matches) 4 ≡ true → MatchesFit matches → is_canonical_target family t ≡ true
      → Fit rules → Fit (rule_of matches t ∷ rules)
  fit_first {matches = matches} {t = t} few h g rest =
      pass_first (rule_of matches t) (rule_fits matches t few h g) rest

  -- one rule
  fit_one : {matches : List Match} {t : Target} → nat_le (length matches) 4 ≡ true
      → MatchesFit matches → is_canonical_target family t ≡ true → Fit (rule_of matches t ∷ [])
  fit_one few h g = fit_first few h g pass_none

  refusal_fits : (b : Bool) → is_canonical_target family (refusal_target b) ≡ true
  refusal_fits true = refl
  refusal_fits false = refl

-- ---- The rules of one port

module _ (setting : Setting) (named : (k : ChainKey) → is_chain_name (setting.name_of k) ≡ true)
    (cluster : passes_if_some (is_canonical_range setting.family) setting.config.cluster ≡ true)
    (i : PortInfo) (bounded : IsBoundedInfo setting.family i) where
  abbrev family : Family
  family = setting.family

  -- a rule for packets to an address
  at_address : (t : Target) → is_canonical_target family t ≡ true → (a : AddressParts)
      → is_canonical_address family a ≡ true → is_canonical_rule family (rule_at i t a) ≡ true
  at_address t g a h =
      rule_fits family (match.Dst (single_range a) false ∷ match.Port i.key.proto i.number ∷ []) t
      refl (pass_first _ (single_fits family a h) (pass_one _ bounded.number)) g

  at_addresses : (t : Target) → is_canonical_target family t ≡ true
      → (addresses : List AddressParts)
      → list_all (is_canonical_address family) addresses ≡ true
      → Fit family (map (rule_at i t) addresses)
  at_addresses t g addresses h =
      pass_map (rule_at i t) addresses
      (λ a c. at_address t g a (from_all (is_canonical_address family) addresses h a c))

  marks_fit : (all : Bool) (range : Option RangeParts)
      → passes_if_some (is_canonical_range family) range ≡ true
      → Fit family (mark_rules all range i)
  marks_fit true range h =
      pass_one _ (at_address (target.Jump mark_masq) refl i.address bounded.address)
  marks_fit false None h = pass_none
  marks_fit false (Some r) h =
      fit_one family refl (pass_first _ h (pass_first _
      (single_fits family i.address bounded.address) (pass_one _ bounded.number))) refl

  -- the name of an endpoint's chain
  abbrev name : Endpoint → List ℕ
  name e = endpoint_chain setting i e

  affinity_fits : (affinity : Option ℕ) → passes_if_some is_timeout affinity ≡ true
      → (es : List Endpoint) → Fit family (affinity_rules (endpoint_chain setting i) affinity es)
  affinity_fits None h es = pass_none
  affinity_fits (Some seconds) h es =
      pass_map _ es (λ e c. rule_fits family (match.Seen (name e) seconds ∷ [])
      (target.Jump (name e)) refl (pass_one _ (and_from _ _ (named (key.Sep i.key e)) h))
      (named (key.Sep i.key e)))

  choice_fits : (es : List Endpoint) → Fit family (choice_rules (endpoint_chain setting i) es)
  choice_fits [] = pass_none
  choice_fits (e ∷ []) = fit_one family refl pass_none (named (key.Sep i.key e))
  choice_fits (e ∷ f ∷ es) =
      fit_first family refl (pass_one _ (chance_fits (length es))) (named (key.Sep i.key e))
      (choice_fits (f ∷ es))

  list_fits : (internal : Bool) (es : List Endpoint) → Fit family (list_rules setting i internal es)
  list_fits internal es =
      pass_both (pass_both (pass_if internal
      (λ _. marks_fit setting.config.masquerade_all setting.config.cluster cluster))
      (affinity_fits i.affinity bounded.affinity es)) (choice_fits es)

  -- the second rule of an endpoint's chain
  sent_fits : (affinity : Option ℕ) (e : Endpoint) → is_canonical_endpoint family e ≡ true
      → Fit family
      (rule_of (match.Proto i.key.proto ∷ set_seen (name e) affinity) (target.Dnat e) ∷ [])
  sent_fits None e h = fit_one family refl (pass_one _ refl) h
  sent_fits (Some seconds) e h =
      fit_one family refl (pass_first _ refl (pass_one _ (named (key.Sep i.key e)))) h

  endpoint_fits : (e : Endpoint) → is_canonical_endpoint family e ≡ true
      → Fit family (endpoint_rules setting i e)
  endpoint_fits e h =
      fit_first family refl (pass_one _ (single_fits family e.address (and_parts _ _ h).0)) refl
      (sent_fits i.affinity e h)

  pods_fit : (range : Option RangeParts) → passes_if_some (is_canonical_range family) range ≡ true
      → (svc : List ℕ) → is_chain_name svc ≡ true → Fit family (pod_rules range svc)
  pods_fit None h svc g = pass_none
  pods_fit (Some r) h svc g = fit_one family refl (pass_one _ h) g

  -- a jump for all packets to a chain of the port
  jump_fits : (kind : PortChain) → Fit family (jump_to (port_chain setting i kind) ∷ [])
  jump_fits kind = fit_one family refl pass_none (named (key.Port kind i.key))

  external_fits : (p : Policy) → Fit family (external_rules setting i p)
  external_fits Cluster = pass_first _ refl (jump_fits Svc)
  external_fits Local =
      pass_both (pods_fit setting.config.cluster cluster (port_chain setting i Svc)
      (named (key.Port Svc i.key)))
      (pass_first _ refl (fit_first family refl (pass_one _ refl) (named (key.Port Svc i.key))
      (pass_if (not (is_empty i.lists.local)) (λ _. jump_fits Svl))))

  firewall_fits : (ranges : Option (List RangeParts))
      → passes_if_some (list_all (is_canonical_range family)) ranges ≡ true
      → Fit family (firewall_chain_rules setting i ranges)
  firewall_fits None h = pass_none
  firewall_fits (Some ranges) h =
      pass_map _ ranges (λ r c. rule_fits family (match.Src r false ∷ [])
      (target.Jump (port_chain setting i Ext)) refl
      (pass_one _ (from_all (is_canonical_range family) ranges h r c))
      (named (key.Port Ext i.key)))

  -- ---- In shared chains

  service_fits : Fit family (service_block setting i)
  service_fits =
      pass_both (pass_if (not (is_empty (internal_list i)))
      (λ _. pass_one _ (at_address (target.Jump (port_chain setting i (chain_of_policy i.internal)))
      (named (key.Port (chain_of_policy i.internal) i.key)) i.address bounded.address)))
      (pass_if i.lists.has_any (λ _. pass_both
      (at_addresses (target.Jump (port_chain setting i Ext)) (named (key.Port Ext i.key))
      i.external bounded.external)
      (at_addresses (target.Jump (port_chain setting i (balancer_chain i.ranges)))
      (named (key.Port (balancer_chain i.ranges) i.key)) i.balancer bounded.balancer)))

  node_port_fits : (t : Target) → is_canonical_target family t ≡ true → (port : Option ℕ)
      → passes_if_some is_port_number port ≡ true → Fit family (node_port_rules i t port)
  node_port_fits t g None h = pass_none
  node_port_fits t g (Some n) h = fit_one family refl (pass_one _ h) g

  node_port_block_fits : Fit family (node_port_block setting i)
  node_port_block_fits =
      pass_if i.lists.has_any (λ _. node_port_fits (target.Jump (port_chain setting i Ext))
      (named (key.Port Ext i.key)) i.node_port bounded.node_port)

  firewall_block_fits : Fit family (firewall_block i)
  firewall_block_fits =
      pass_if (has_firewall i) (λ _. at_addresses target.Drop refl i.balancer bounded.balancer)

  node_refusal_fits : (t : Target) → is_canonical_target family t ≡ true → (port : Option ℕ)
      → passes_if_some is_port_number port ≡ true → Fit family (node_port_refusal family i t port)
  node_refusal_fits t g None h = pass_none
  node_refusal_fits t g (Some n) h =
      fit_one family refl
      (pass_first _ (loopback_fits family) (pass_first _ refl (pass_one _ h))) g

  external_block_fits : Fit family (external_block family i)
  external_block_fits =
      let t : Target = refusal_target i.lists.has_any in
      let g : is_canonical_target family t ≡ true = refusal_fits family i.lists.has_any in
      pass_if (is_empty (external_list i)) (λ _. pass_both
      (pass_both (at_addresses t g i.external bounded.external)
      (at_addresses t g i.balancer bounded.balancer))
      (node_refusal_fits t g i.node_port bounded.node_port))

  refusal_block_fits : Fit family (refusal_block i)
  refusal_block_fits =
      pass_if (is_empty (internal_list i)) (λ _. pass_one _
      (at_address (refusal_target i.lists.has_any) (refusal_fits family i.lists.has_any) i.address
      bounded.address))

-- ---- Rows

-- a row whose name and rules have texts of their own
abbrev pub row_fits : Family → Row → Bool
row_fits family r = is_chain_name r.0.chain && list_all (is_canonical_rule family) r.1

module _ (setting : Setting) (named : (k : ChainKey) → is_chain_name (setting.name_of k) ≡ true)
    (cluster : passes_if_some (is_canonical_range setting.family) setting.config.cluster
    ≡ true) where
  -- rows that do
  abbrev RowsFit : List Row → Type 0
  RowsFit rows = Pass (row_fits setting.family) rows

  module _ (i : PortInfo) (bounded : IsBoundedInfo setting.family i) where
    -- each endpoint of a port is one
    endpoint_canonical : (e : Endpoint) → Contains (all_endpoints i) e
        → is_canonical_endpoint setting.family e ≡ true
    endpoint_canonical e c =
        from_all (is_canonical_endpoint setting.family) (all_endpoints i)
        (test_append (is_canonical_endpoint setting.family) i.lists.cluster _ bounded.cluster
        (all_passing i.lists.local bounded.local)) e c
      where
        all_passing : (es : List Endpoint)
            → list_all (is_canonical_endpoint setting.family) es ≡ true
            → list_all (is_canonical_endpoint setting.family)
            (filter (λ f. not (has_endpoint i.lists.cluster f)) es) ≡ true
        all_passing es h = all_filter (is_canonical_endpoint setting.family)
            (λ f. not (has_endpoint i.lists.cluster f)) es h

    kind_fits : (kind : PortChain) → Fit setting.family (rules_of_kind setting i kind)
    kind_fits Svc = list_fits setting named cluster i bounded _ i.lists.cluster
    kind_fits Svl = list_fits setting named cluster i bounded _ i.lists.local
    kind_fits Ext = external_fits setting named cluster i bounded i.outer
    kind_fits Fw = firewall_fits setting named cluster i bounded i.ranges bounded.ranges

    -- the chains of a port
    port_fits : RowsFit (port_rows setting i)
    port_fits =
        pass_map (row_of_key setting i) (own_keys i) (λ k c.
        and_from (is_chain_name (setting.name_of k)) _ (named k)
        (key_cases (λ l. Fit setting.family (rules_of_key setting i l)) i (λ kind _. kind_fits kind)
        (λ e d. endpoint_fits setting named cluster i bounded e (endpoint_canonical e d)) k c).all)

  -- ---- The full table

  nat_fits : (family : Family) (node_ports services : List Rule) → Fit family node_ports
      → Fit family services → list_all (row_fits family)
      (nat_rows_with family node_ports services) ≡ true
  nat_fits family node_ports services h k =
      let last : Fit family (rule_of (own_addresses family) (target.Jump kube_node_ports) ∷ []) =
      fit_one family refl (pass_first _ (loopback_fits family) (pass_one _ refl)) refl in
      and_from (list_all (is_canonical_rule family) node_ports) _ h.all
      (and_from _ true (pass_both k last).all refl)

  filter_fits : (family : Family) (firewall external services : List Rule) → Fit family firewall
      → Fit family external → Fit family services
      → list_all (row_fits family) (filter_rows_with family firewall external services) ≡ true
  filter_fits family firewall external services h k l =
      and_from (list_all (is_canonical_rule family) firewall) _ h.all
      (and_from (list_all (is_canonical_rule family) external) _ k.all
      (and_from (list_all (is_canonical_rule family) services) true l.all refl))

  pub rows_fit : (infos : List PortInfo)
      → ((i : PortInfo) → Contains infos i → IsBoundedInfo setting.family i)
      → list_all (row_fits setting.family) (rows_of setting infos) ≡ true
  rows_fit infos bounded =
      let nat : RowsFit (nat_rows setting infos) = record {
        all = nat_fits setting.family (flat_map (node_port_block setting) infos)
            (flat_map (service_block setting) infos)
            (pass_pieces (node_port_block setting) infos
            (λ i c. node_port_block_fits setting named cluster i (bounded i c)))
            (pass_pieces (service_block setting) infos
            (λ i c. service_fits setting named cluster i (bounded i c)));
      } in
      let filter : RowsFit (filter_rows setting.family infos) = record {
        all = filter_fits setting.family (flat_map firewall_block infos)
            (flat_map (external_block setting.family) infos) (flat_map refusal_block infos)
            (pass_pieces firewall_block infos
            (λ i c. firewall_block_fits setting named cluster i (bounded i c)))
            (pass_pieces (external_block setting.family) infos
            (λ i c. external_block_fits setting named cluster i (bounded i c)))
            (pass_pieces refusal_block infos
            (λ i c. refusal_block_fits setting named cluster i (bounded i c)));
      } in
      (pass_both (pass_both nat filter)
      (pass_pieces (port_rows setting) infos (λ i c. port_fits i (bounded i c)))).all
