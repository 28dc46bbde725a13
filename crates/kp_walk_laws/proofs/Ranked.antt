-- Each jump of the full table goes to a chain that stands and has a greater rank.
use Rattle.std.proofs.Common.{◌≡◌, ℕ, Bool, true, false, not, nat_lt, List, [], ◌∷◌, ◌++◌, map, Contains, Option, Some, None, bytes_eq, codes, cond, is_some, flat_map, append-nil, refl, sym, ap, subst, ◌∙◌}
use Rattle.std.specs.FinMap.{entries, from_entries, get}
use Rattle.std.specs.List.{list_all, list_any}
use Rattle.std.proofs.lemmas.Bool.{and_from}
use Rattle.std.proofs.lemmas.List.Elements.{Contains-append_right}
use Rattle.kp_lemmas.proofs.Members.{all_flat_map, all_from, any_from, first_in, from_all, later_in}
use Rattle.kp_base.specs.Net.{AddressParts, RangeParts, same_family}
use Rattle.kp_base.specs.declared.key.Endpoint.{Endpoint}
use Rattle.kp_base.specs.declared.address.Family.{Family}
use Rattle.kp_base.specs.declared.address.Family.TheVariants.{V4, V6}
use Rattle.kp_base.proofs.SameParts.{family_itself}
use Rattle.kp_types.specs.Setting.{Setting, config_of_family, view_of}
use Rattle.kp_types.specs.Places.{chain_cmp, filter_of, nat_of}
use Rattle.kp_types.proofs.ChainOrder.{chain_total, chain_exact}
use Rattle.kp_types.specs.Rules.{rule_of}
use Rattle.kp_types.specs.declared.chain.TableName.{TableName}
use Rattle.kp_types.specs.declared.chain.TableName.TheVariants.{Nat, Filter}
use Rattle.kp_types.specs.declared.chain.ChainKey.{ChainKey}
use Rattle.kp_types.specs.declared.chain.ChainKey.TheVariants as key
use Rattle.kp_types.specs.declared.chain.PortChain.{PortChain}
use Rattle.kp_types.specs.declared.chain.PortChain.TheVariants.{Svc, Svl, Ext, Fw}
use Rattle.kp_types.specs.declared.rule.Match.TheVariants as match
use Rattle.kp_types.specs.declared.rule.Rule.{Rule}
use Rattle.kp_types.specs.declared.rule.Target.{Target}
use Rattle.kp_types.specs.declared.rule.Target.TheVariants as target
use Rattle.kp_types.specs.declared.service.Policy.{Policy}
use Rattle.kp_types.specs.declared.service.Policy.TheVariants.{Cluster, Local}
use Rattle.kp_types.proofs.TableFamilies.{filter_is_own, nat_is_own}
use Rattle.kp_choice_defs.specs.AddressText.{endpoint_text}
use Rattle.kp_choice_defs.specs.Names.{hash_text, port_text, port_chain_prefix}
use Rattle.kp_object_defs.specs.Desired.{is_empty}
use Rattle.kp_object_defs.specs.Lists.{is_local_policy, list_by_policy}
use Rattle.kp_object_defs.specs.PortInfo.{PortInfo, infos_by_family, internal_list, external_list}
use Rattle.kp_table_defs.specs.Keys.{has_firewall, needs, own_keys}
use Rattle.kp_table_defs.specs.Layout.{row, rule_at, jump_to, affinity_rules, balancer_chain, choice_rules, external_rules, firewall_chain_rules, node_port_rules, pod_rules, mark_rules, list_rules, endpoint_chain, port_chain, chain_of_policy, mark_masq, kube_services, kube_node_ports, kube_postrouting, kube_proxy_firewall, kube_external_services, kube_forward, service_block, node_port_block, firewall_block, node_port_refusal, external_block, refusal_block, refusal_target, own_addresses, nat_rows, filter_rows, port_rows, place_of_key, row_of_key, rows_of, rules_of_key}
use Rattle.kp_table_defs.specs.Ranks.{rank_of, rank_of_name, is_above, goes_on, jumps_go_on, is_ranked_chain, is_ranked, built_in_chains, filter_chains, has_built_in, has_chains_of, nat_chains}
use Rattle.kp_table_defs.specs.Rebuild.{Chains, full_chains, rows_of_families}
use Rattle.kp_table_defs.specs.StandIn.{hex_text}
use Rattle.kp_table_laws.specs.Families.{HasTablesOf, chains_of_families}
use Rattle.kp_table_laws.proofs.Entries.{from_in_order}
use Rattle.kp_table_laws.proofs.Families.{family_stands_alone}
use Rattle.kp_table_laws.proofs.KeyRows.{Row, row_stands}
use Rattle.kp_table_laws.proofs.NeededKeys.{key_cases, own_kind, own_endpoint}
use Rattle.kp_walk_laws.specs.Laws.{OffersAny, IsPrefixed, StandInPrefixed, HashedPrefixed, FullTableRanked, FullTableRankedObjects, FullTablesRanked}
use Rattle.kp_object_defs.proofs.InOrder.{entries_in_order}
use Rattle.kp_walk_laws.proofs.NeededChains.{balancer_needs, external_needs, needs_external, needs_list, node_port_needs}
use Rattle.kp_walk_laws.proofs.KnownPorts.{known_ports_by}
use Rattle.kp_walk_laws.proofs.Lookups.{look_up, in_filter, in_nat, is_found, finds_nat, finds_filter}
use Rattle.kp_walk_laws.proofs.FirstHook.{FindsNat}
use Rattle.kp_walk_laws.proofs.Passing.{Pass, pass_none, pass_first, pass_one, pass_both, pass_map, pass_pieces, pass_if}
use Rattle.kp_walk_laws.proofs.FilterChains.{FindsFilter}
use Rattle.kp_walk_laws.proofs.PortLookups.{in_either}

-- ---- Rules that go on

module _ (chains : Chains) where
  -- the rules of a chain of this rank go on
  abbrev pub GoOn : TableName → ℕ → List Rule → Type 0
  GoOn table rank rules = Pass (λ r. goes_on chains table rank r.target) rules

  -- a jump to a chain that stands and has a greater rank goes on
  jump_on : (table : TableName) (rank other : ℕ) (chain : List ℕ)
      → is_some (get chains (record { table = table; chain = chain })) ≡ true
      → rank_of (record { table = table; chain = chain }) ≡ Some other
      → nat_lt rank other ≡ true → goes_on chains table rank (target.Jump chain) ≡ true
  jump_on table rank other chain found ranked above =
      and_from (is_some (get chains (record { table = table; chain = chain })))
      (is_above rank (rank_of (record { table = table; chain = chain }))) found
      (ap (is_above rank) ranked ∙ above)

  refusal_on : (table : TableName) (rank : ℕ) (b : Bool)
      → goes_on chains table rank (refusal_target b) ≡ true
  refusal_on table rank true = refl
  refusal_on table rank false = refl

  module _ (table : TableName) (rank : ℕ) where
    affinity_on : (name : Endpoint → List ℕ) (affinity : Option ℕ) (es : List Endpoint)
        → ((f : Endpoint) → Contains es f → goes_on chains table rank (target.Jump (name f)) ≡ true)
        → GoOn table rank (affinity_rules name affinity es)
    affinity_on name None es h = pass_none
    affinity_on name (Some seconds) es h = pass_map _ es h

    choice_on : (name : Endpoint → List ℕ) (es : List Endpoint)
        → ((f : Endpoint) → Contains es f → goes_on chains table rank (target.Jump (name f)) ≡ true)
        → GoOn table rank (choice_rules name es)
    choice_on name [] h = pass_none
    choice_on name (e ∷ []) h = pass_one _ (h e (first_in e []))
    choice_on name (e ∷ f ∷ es) h =
        pass_first _ (h e (first_in e (f ∷ es)))
        (choice_on name (f ∷ es) (λ g c. h g (later_in g e (f ∷ es) c)))

    marks_on : (all : Bool) (cluster : Option RangeParts) (i : PortInfo)
        → goes_on chains table rank (target.Jump mark_masq) ≡ true
        → GoOn table rank (mark_rules all cluster i)
    marks_on true cluster i h = pass_one _ h
    marks_on false None i h = pass_none
    marks_on false (Some r) i h = pass_one _ h

    pods_on : (cluster : Option RangeParts) (svc : List ℕ)
        → goes_on chains table rank (target.Jump svc) ≡ true
        → GoOn table rank (pod_rules cluster svc)
    pods_on None svc h = pass_none
    pods_on (Some r) svc h = pass_one _ h

    node_port_on : (i : PortInfo) (t : Target) (port : Option ℕ)
        → (is_some port ≡ true → goes_on chains table rank t ≡ true)
        → GoOn table rank (node_port_rules i t port)
    node_port_on i t None h = pass_none
    node_port_on i t (Some n) h = pass_one _ (h refl)

  module _ (table : TableName) where
    refuses_on : (i : PortInfo) (b : Bool) (addresses : List AddressParts)
        → GoOn table 1 (map (rule_at i (refusal_target b)) addresses)
    refuses_on i b addresses =
        pass_map (rule_at i (refusal_target b)) addresses (λ a c. refusal_on table 1 b)

    firewall_on : (i : PortInfo) → GoOn table 1 (firewall_block i)
    firewall_on i =
        pass_if (has_firewall i) (λ _. pass_map (rule_at i target.Drop) i.balancer (λ a c. refl))

    node_refusal_on : (family : Family) (i : PortInfo) (b : Bool) (port : Option ℕ)
        → GoOn table 1 (node_port_refusal family i (refusal_target b) port)
    node_refusal_on family i b None = pass_none
    node_refusal_on family i b (Some n) = pass_one _ (refusal_on table 1 b)

    external_on : (family : Family) (i : PortInfo) → GoOn table 1 (external_block family i)
    external_on family i =
        let any : Bool = i.lists.has_any in
        pass_if (is_empty (external_list i))
        (λ _. pass_both (pass_both (refuses_on i any i.external) (refuses_on i any i.balancer))
        (node_refusal_on family i any i.node_port))

    rejects_on : (i : PortInfo) → GoOn table 1 (refusal_block i)
    rejects_on i =
        pass_if (is_empty (internal_list i))
        (λ _. pass_one _ (refusal_on table 1 i.lists.has_any))

-- ---- Ranks in the tables of a family

-- the built-in chains of a family's tables
nat_built : (family : Family) → built_in_chains (nat_of family) ≡ nat_chains
nat_built V4 = refl
nat_built V6 = refl

filter_built : (family : Family) → built_in_chains (filter_of family) ≡ filter_chains
filter_built V4 = refl
filter_built V6 = refl

-- the rank of a chain in a table with these built-in chains
abbrev rank_among : List (List ℕ) → List ℕ → Option ℕ
rank_among built chain = cond (list_any (bytes_eq chain) built) (Some 0) (rank_of_name chain)

-- ---- The full table

-- the rank of a port's or an endpoint's chain
abbrev pub key_rank : ChainKey → ℕ
key_rank (key.Port Fw port) = 3
key_rank (key.Port Ext port) = 4
key_rank (key.Port Svc port) = 5
key_rank (key.Port Svl port) = 5
key_rank (key.Sep port e) = 6

module _ (setting : Setting) (infos : List PortInfo) (prefixed : IsPrefixed setting.name_of)
    (any : (i : PortInfo) → Contains infos i → OffersAny i) (chains : Chains)
    (holds : HasTablesOf setting.family chains (full_chains setting infos)) where
  -- the tables of the family
  abbrev nat : TableName
  nat = nat_of setting.family

  abbrev filters : TableName
  filters = filter_of setting.family

  -- a row has a rank, and its jumps go on
  abbrev IsRankedRow : Row → Type 0
  IsRankedRow r = is_ranked_chain chains r ≡ true

  nat_rank : (chain : List ℕ)
      → rank_of (record { table = nat; chain = chain }) ≡ rank_among nat_chains chain
  nat_rank chain = ap (λ built. rank_among built chain) (nat_built setting.family)

  filter_rank : (chain : List ℕ)
      → rank_of (record { table = filters; chain = chain }) ≡ rank_among filter_chains chain
  filter_rank chain = ap (λ built. rank_among built chain) (filter_built setting.family)

  -- a row is ranked where its rules go on from the rank of its chain
  nat_row : (chain : List ℕ) (rules : List Rule) (rank : ℕ)
      → rank_among nat_chains chain ≡ Some rank → GoOn chains nat rank rules
      → IsRankedRow (row nat chain rules)
  nat_row chain rules rank is on =
      ap (λ o. jumps_go_on chains nat o rules) (nat_rank chain ∙ is) ∙ on.all

  filter_row : (chain : List ℕ) (rules : List Rule) (rank : ℕ)
      → rank_among filter_chains chain ≡ Some rank → GoOn chains filters rank rules
      → IsRankedRow (row filters chain rules)
  filter_row chain rules rank is on =
      ap (λ o. jumps_go_on chains filters o rules) (filter_rank chain ∙ is) ∙ on.all

  -- a jump to a chain that a look-up finds in the family's tables
  to_nat : (rank other : ℕ) (chain : List ℕ) {rules : List Rule}
      → look_up setting infos (record { table = Nat; chain = chain }) ≡ Some rules
      → rank_among nat_chains chain ≡ Some other → nat_lt rank other ≡ true
      → goes_on chains nat rank (target.Jump chain) ≡ true
  to_nat rank other chain found is above =
      jump_on chains nat rank other chain
      (ap is_some (holds _ (nat_is_own setting.family) ∙ found)) (nat_rank chain ∙ is) above

  to_filter : (chain : List ℕ) {rules : List Rule}
      → look_up setting infos (record { table = Filter; chain = chain }) ≡ Some rules
      → rank_among filter_chains chain ≡ Some 1
      → goes_on chains filters 0 (target.Jump chain) ≡ true
  to_filter chain found is =
      jump_on chains filters 0 1 chain
      (ap is_some (holds _ (filter_is_own setting.family) ∙ found)) (filter_rank chain ∙ is) refl

  -- a chain has its rank by what its name begins with
  made_rank : (k : ChainKey) → rank_among nat_chains (setting.name_of k) ≡ Some (key_rank k)
  made_rank (key.Port Fw port) = ap (rank_among nat_chains) (prefixed.port Fw port).1
  made_rank (key.Port Ext port) = ap (rank_among nat_chains) (prefixed.port Ext port).1
  made_rank (key.Port Svc port) = ap (rank_among nat_chains) (prefixed.port Svc port).1
  made_rank (key.Port Svl port) = ap (rank_among nat_chains) (prefixed.port Svl port).1
  made_rank (key.Sep port e) = ap (rank_among nat_chains) (prefixed.endpoint port e).1

  -- a jump to a chain that a port needs goes on
  goes : (i : PortInfo) → Contains infos i → (k : ChainKey) → Contains (own_keys i) k → (rank : ℕ)
      → nat_lt rank (key_rank k) ≡ true
      → goes_on chains nat rank (target.Jump (setting.name_of k)) ≡ true
  goes i c k ck rank above =
      let stands : Contains (rows_of setting infos) (row_of_key setting i k) =
      Contains-append_right (nat_rows setting infos ++ filter_rows setting.family infos)
      (flat_map (port_rows setting) infos) (row_of_key setting i k)
      (row_stands setting infos i c k ck) in
      jump_on chains nat rank (key_rank k) (setting.name_of k)
      (ap is_some (holds (place_of_key setting k) (nat_is_own setting.family))
      ∙ is_found setting infos (place_of_key setting k) (rules_of_key setting i k) stands)
      (nat_rank (setting.name_of k) ∙ made_rank k) above

  marks : (rank : ℕ) → nat_lt rank 7 ≡ true → goes_on chains nat rank (target.Jump mark_masq) ≡ true
  marks rank h = to_nat rank 7 mark_masq (finds_nat setting infos).mark refl h

  -- a jump to a chain that a port needs
  to_kind : (i : PortInfo) → Contains infos i → (kind : PortChain) → needs kind i ≡ true
      → (rank : ℕ) → nat_lt rank (key_rank (key.Port kind i.key)) ≡ true
      → goes_on chains nat rank (target.Jump (port_chain setting i kind)) ≡ true
  to_kind i c kind need rank above =
      goes i c (key.Port kind i.key) (own_kind i kind need) rank above

  -- the chain of a list
  list_on : (i : PortInfo) → Contains infos i → (p : Policy) (internal : Bool)
      → GoOn chains nat 5 (list_rules setting i internal (list_by_policy p i.lists))
  list_on i c p internal =
      let es : List Endpoint = list_by_policy p i.lists in
      let name : Endpoint → List ℕ = endpoint_chain setting i in
      let to : (f : Endpoint) → Contains es f
      → goes_on chains nat 5 (target.Jump (name f)) ≡ true = λ f d.
      goes i c (key.Sep i.key f) (own_endpoint i f (in_either i p f d)) 5 refl in
      pass_both (pass_both (pass_if internal (λ _. marks_on chains nat 5
      setting.config.masquerade_all setting.config.cluster i (marks 5 refl)))
      (affinity_on chains nat 5 name i.affinity es to)) (choice_on chains nat 5 name es to)

  -- the chain of what comes in from outside
  external_ranked : (i : PortInfo) → Contains infos i → needs Ext i ≡ true → (p : Policy)
      → GoOn chains nat 4 (external_rules setting i p)
  external_ranked i c need p = by_policy (to_kind i c Svc (needs_list i (any i c) need) 4 refl) p
    where
      by_policy : goes_on chains nat 4 (target.Jump (port_chain setting i Svc)) ≡ true
          → (p : Policy) → GoOn chains nat 4 (external_rules setting i p)
      by_policy svc Cluster = pass_first _ (marks 4 refl) (pass_one _ svc)
      by_policy svc Local =
          pass_both (pods_on chains nat 4 setting.config.cluster (port_chain setting i Svc) svc)
          (pass_first _ (marks 4 refl) (pass_first _ svc (pass_if (not (is_empty i.lists.local))
          (λ some. pass_one _ (to_kind i c Svl some 4 refl)))))

  -- and that of source ranges
  firewall_ranked : (i : PortInfo) → Contains infos i → needs Fw i ≡ true
      → (r : Option (List RangeParts)) → GoOn chains nat 3 (firewall_chain_rules setting i r)
  firewall_ranked i c need None = pass_none
  firewall_ranked i c need (Some ranges) =
      pass_map _ ranges (λ r d. to_kind i c Ext (needs_external i need) 3 refl)

  -- a chain of a port is ranked where its rules go on from its rank
  ranked_by : (i : PortInfo) (k : ChainKey)
      → GoOn chains nat (key_rank k) (rules_of_key setting i k)
      → IsRankedRow (row_of_key setting i k)
  ranked_by i k on =
      nat_row (setting.name_of k) (rules_of_key setting i k) (key_rank k) (made_rank k) on

  kind_ranked : (i : PortInfo) → Contains infos i → (kind : PortChain) → needs kind i ≡ true
      → IsRankedRow (row_of_key setting i (key.Port kind i.key))
  kind_ranked i c Svc need = ranked_by i _ (list_on i c Cluster (not (is_local_policy i.internal)))
  kind_ranked i c Svl need = ranked_by i _ (list_on i c Local (is_local_policy i.internal))
  kind_ranked i c Ext need = ranked_by i _ (external_ranked i c need i.outer)
  kind_ranked i c Fw need = ranked_by i _ (firewall_ranked i c need i.ranges)

  port_ranked : (i : PortInfo) → Contains infos i
      → Pass (is_ranked_chain chains) (port_rows setting i)
  port_ranked i c =
      pass_map (row_of_key setting i) (own_keys i)
      (key_cases (λ l. IsRankedRow (row_of_key setting i l)) i (kind_ranked i c)
      (λ e in_e. ranked_by i (key.Sep i.key e) (pass_first _ (marks 6 refl) (pass_one _ refl))))

  to_list : (i : PortInfo) → Contains infos i → (p : Policy)
      → not (is_empty (list_by_policy p i.lists)) ≡ true
      → goes_on chains nat 1 (target.Jump (port_chain setting i (chain_of_policy p))) ≡ true
  to_list i c Cluster some = to_kind i c Svc some 1 refl
  to_list i c Local some = to_kind i c Svl some 1 refl

  -- chains of load-balancer addresses have greater ranks than KUBE-SERVICES
  balancer_above : (i : PortInfo) (r : Option (List RangeParts))
      → nat_lt 1 (key_rank (key.Port (balancer_chain r) i.key)) ≡ true
  balancer_above i None = refl
  balancer_above i (Some ranges) = refl

  service_on : (i : PortInfo) → Contains infos i → GoOn chains nat 1 (service_block setting i)
  service_on i c =
      pass_both (pass_if (not (is_empty (internal_list i)))
      (λ some. pass_one _ (to_list i c i.internal some)))
      (pass_if i.lists.has_any (λ any. pass_both
      (pass_map _ i.external (λ a d. to_kind i c Ext (external_needs i any a d) 1 refl))
      (pass_map _ i.balancer (λ a d. to_kind i c (balancer_chain i.ranges)
      (balancer_needs i any a d) 1 (balancer_above i i.ranges)))))

  node_port_block_on : (i : PortInfo) → Contains infos i
      → GoOn chains nat 2 (node_port_block setting i)
  node_port_block_on i c =
      pass_if i.lists.has_any
      (λ any. node_port_on chains nat 2 i (target.Jump (port_chain setting i Ext)) i.node_port
      (λ port. to_kind i c Ext (node_port_needs i any port) 2 refl))

  module _ (finds : FindsNat setting infos (look_up setting infos)) where
    services_ranked : GoOn chains nat 1 (flat_map (service_block setting) infos
        ++ rule_of (own_addresses setting.family) (target.Jump kube_node_ports) ∷ [])
    services_ranked =
        pass_both (pass_pieces (service_block setting) infos service_on)
        (pass_one _ (to_nat 1 2 kube_node_ports finds.node_ports refl refl))

    node_ports_ranked : GoOn chains nat 2 (flat_map (node_port_block setting) infos)
    node_ports_ranked = pass_pieces (node_port_block setting) infos node_port_block_on

    to_services : GoOn chains nat 0 (jump_to kube_services ∷ [])
    to_services = pass_one _ (to_nat 0 1 kube_services finds.services refl refl)

    to_postrouting : GoOn chains nat 0 (jump_to kube_postrouting ∷ [])
    to_postrouting = pass_one _ (to_nat 0 1 kube_postrouting finds.masquerade refl refl)

    masks : GoOn chains nat 1 (rule_of (match.Marked true ∷ []) target.Return
        ∷ rule_of [] target.FlipMark ∷ rule_of [] target.Masquerade ∷ [])
    masks = record { all = refl }

    nat_ranked : Pass (is_ranked_chain chains) (nat_rows setting infos)
    nat_ranked =
        pass_first _ (nat_row (codes "PREROUTING") _ 0 refl to_services)
        (pass_first _ (nat_row (codes "INPUT") [] 0 refl pass_none)
        (pass_first _ (nat_row (codes "OUTPUT") _ 0 refl to_services)
        (pass_first _ (nat_row (codes "POSTROUTING") _ 0 refl to_postrouting)
        (pass_first _ (nat_row mark_masq _ 7 refl (pass_one (rule_of [] target.SetMark) refl))
        (pass_first _ (nat_row kube_postrouting _ 1 refl masks)
        (pass_first _ (nat_row kube_node_ports _ 2 refl node_ports_ranked)
        (pass_one _ (nat_row kube_services _ 1 refl services_ranked))))))))

  module _ (finds : FindsFilter setting.family infos (look_up setting infos)) where
    on_firewall : goes_on chains filters 0 (target.Jump kube_proxy_firewall) ≡ true
    on_firewall = to_filter kube_proxy_firewall finds.firewall refl

    on_external : goes_on chains filters 0 (target.Jump kube_external_services) ≡ true
    on_external = to_filter kube_external_services finds.external refl

    on_services : goes_on chains filters 0 (target.Jump kube_services) ≡ true
    on_services = to_filter kube_services finds.services refl

    on_forward : goes_on chains filters 0 (target.Jump kube_forward) ≡ true
    on_forward = to_filter kube_forward finds.marked refl

    filter_ranked : Pass (is_ranked_chain chains) (filter_rows setting.family infos)
    filter_ranked =
        let input : GoOn chains filters 0 (jump_to kube_proxy_firewall
        ∷ jump_to kube_external_services ∷ []) =
        pass_first _ on_firewall (pass_one _ on_external) in
        let forward : GoOn chains filters 0 (jump_to kube_proxy_firewall
        ∷ jump_to kube_external_services ∷ jump_to kube_services ∷ jump_to kube_forward ∷ []) =
        pass_first _ on_firewall (pass_first _ on_external
        (pass_first _ on_services (pass_one _ on_forward))) in
        let output : GoOn chains filters 0 (jump_to kube_proxy_firewall
        ∷ jump_to kube_services ∷ []) =
        pass_first _ on_firewall (pass_one _ on_services) in
        let firewall : GoOn chains filters 1 (flat_map firewall_block infos) =
        pass_pieces firewall_block infos (λ i c. firewall_on chains filters i) in
        let external : GoOn chains filters 1 (flat_map (external_block setting.family) infos) =
        pass_pieces _ infos (λ i c. external_on chains filters setting.family i) in
        let refusals : GoOn chains filters 1 (flat_map refusal_block infos) =
        pass_pieces refusal_block infos (λ i c. rejects_on chains filters i) in
        pass_first _ (filter_row (codes "INPUT") _ 0 refl input)
        (pass_first _ (filter_row (codes "FORWARD") _ 0 refl forward)
        (pass_first _ (filter_row (codes "OUTPUT") _ 0 refl output)
        (pass_first _ (filter_row kube_forward _ 1 refl
        (pass_one (rule_of (match.Marked false ∷ []) target.Accept) refl))
        (pass_first _ (filter_row kube_proxy_firewall _ 1 refl firewall)
        (pass_first _ (filter_row kube_external_services _ 1 refl external)
        (pass_one _ (filter_row kube_services _ 1 refl refusals)))))))

  -- all rows of the family are ranked
  rows_ranked : list_all (is_ranked_chain chains) (rows_of setting infos) ≡ true
  rows_ranked =
      (pass_both (pass_both (nat_ranked (finds_nat setting infos))
      (filter_ranked (finds_filter setting infos)))
      (pass_pieces (port_rows setting) infos port_ranked)).all

  -- a look-up finds each built-in chain among the rows
  family_built_in : has_chains_of setting.family chains ≡ true
  family_built_in =
      and_from (has_built_in chains nat) (has_built_in chains filters)
      (ap (list_all (λ chain. is_some (get chains (record { table = nat; chain = chain }))))
      (nat_built setting.family)
      ∙ (λ i. list_all (λ chain. is_some ((holds (record { table = nat; chain = chain })
      (nat_is_own setting.family) ∙ in_nat setting infos chain) i)) nat_chains))
      (ap (list_all (λ chain. is_some (get chains (record { table = filters; chain = chain }))))
      (filter_built setting.family)
      ∙ (λ i. list_all (λ chain. is_some ((holds (record { table = filters; chain = chain })
      (filter_is_own setting.family) ∙ in_filter setting infos chain) i)) filter_chains))

-- a table is ranked where the rows that it is made of are
table_ranked : (rows : List Row)
    → list_all (is_ranked_chain (from_entries {R = chain_cmp} rows)) rows ≡ true
    → is_ranked (from_entries {R = chain_cmp} rows) ≡ true
table_ranked rows ranked =
    let chains : Chains = from_entries {R = chain_cmp} rows in
    all_from (is_ranked_chain chains) (entries chains)
    (λ r c. from_all (is_ranked_chain chains) rows ranked r
    (from_in_order chain_cmp chain_exact rows r
    (subst (λ es. Contains es r) (entries_in_order chain_total rows) c)))

pub full_table_ranked_by : FullTableRanked
full_table_ranked_by setting infos prefixed any = record {
  ranked =
      table_ranked (rows_of setting infos)
      (rows_ranked setting infos prefixed any (full_chains setting infos) (λ q own. refl));
  built_in =
      family_built_in setting infos prefixed any (full_chains setting infos) (λ q own. refl);
}

pub full_tables_ranked_by : FullTablesRanked
full_tables_ranked_by settings infos prefixed any =
    let chains : Chains = chains_of_families settings infos in
    let rows : Family → List Row =
    λ family. rows_of (view_of family settings) (infos family) in record {
      ranked =
          table_ranked (rows_of_families settings infos)
          (all_flat_map (is_ranked_chain chains) rows settings.families (λ family c.
          rows_ranked (view_of family settings) (infos family) prefixed (any family) chains
          (family_stands_alone settings infos family
          (any_from (same_family family) family settings.families c (family_itself family)))));
      built_in = λ family has. family_built_in (view_of family settings) (infos family) prefixed
          (any family) chains (family_stands_alone settings infos family has);
    }

pub full_table_ranked_objects_by : FullTableRankedObjects
full_table_ranked_objects_by settings o prefixed =
    full_tables_ranked_by settings (infos_by_family settings o) prefixed
    (λ family i c. (known_ports_by family (config_of_family family settings.config) o i c).any)

pub stand_in_prefixed_by : StandInPrefixed
stand_in_prefixed_by = record {
  port = λ kind k. ([], sym (append-nil (port_chain_prefix kind)));
  endpoint = λ k f. (hex_text 8 f.address.number ++ hex_text 4 f.port, refl);
}

pub hashed_prefixed_by : HashedPrefixed
hashed_prefixed_by length = record {
  port = λ kind k. (hash_text length (port_text k), refl);
  endpoint = λ k f. (hash_text length (port_text k ++ endpoint_text f), refl);
}
