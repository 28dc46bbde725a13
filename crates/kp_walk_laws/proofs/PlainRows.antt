-- Without session affinity no row of the full table has a recent match.
use Rattle.std.proofs.Common.{◌≡◌, ℕ, Bool, true, false, not, cond, ◌&&◌, List, [], ◌∷◌, map, Contains, Option, Some, None, refl, sym, ap, ◌∙◌}
use Rattle.std.specs.FinMap.{find, get-from_entries}
use Rattle.std.specs.Ordering.{eq_by_cmp}
use Rattle.std.specs.List.{list_all}
use Rattle.std.proofs.lemmas.Bool.{and_from, and_parts}
use Rattle.std.proofs.lemmas.Option.{same_Some}
use Rattle.std.proofs.lemmas.List.Sums.{AllPass-from_list_all}
use Rattle.kp_base.specs.Net.{AddressParts, RangeParts}
use Rattle.kp_base.specs.declared.key.Endpoint.{Endpoint}
use Rattle.kp_types.specs.Setting.{Setting}
use Rattle.kp_types.specs.Places.{chain_cmp}
use Rattle.kp_types.proofs.ChainOrder.{chain_total}
use Rattle.kp_types.specs.Rules.{rule_of}
use Rattle.kp_types.specs.declared.chain.ChainAt.{ChainAt}
use Rattle.kp_types.specs.declared.chain.ChainKey.{ChainKey}
use Rattle.kp_types.specs.declared.chain.ChainKey.TheVariants as key
use Rattle.kp_types.specs.declared.chain.PortChain.TheVariants.{Svc, Svl, Ext, Fw}
use Rattle.kp_types.specs.declared.rule.Rule.{Rule}
use Rattle.kp_types.specs.declared.rule.Target.{Target}
use Rattle.kp_types.specs.declared.rule.Target.TheVariants as target
use Rattle.kp_types.specs.declared.service.Policy.{Policy}
use Rattle.kp_types.specs.declared.service.Policy.TheVariants.{Cluster, Local}
use Rattle.kp_object_defs.specs.Desired.{is_empty}
use Rattle.kp_object_defs.specs.PortInfo.{PortInfo, internal_list, external_list}
use Rattle.kp_table_defs.specs.Keys.{has_firewall, own_keys}
use Rattle.kp_table_defs.specs.Layout.{rule_at, choice_rules, affinity_rules, mark_rules, list_rules, set_seen, endpoint_rules, external_rules, pod_rules, firewall_chain_rules, service_block, node_port_rules, node_port_block, firewall_block, node_port_refusal, external_block, refusal_block, port_chain, endpoint_chain, nat_rows, filter_rows, port_rows, row_of_key, rows_of, rules_of_key, own_addresses, kube_node_ports}
use Rattle.kp_table_defs.specs.Plain.{is_plain_match, is_plain}
use Rattle.kp_table_laws.proofs.KeyRows.{Row}
use Rattle.kp_walk_laws.specs.Laws.{FullTablePlain}
use Rattle.kp_walk_laws.proofs.Passing.{Pass, pass_none, pass_first, pass_one, pass_both, pass_map, pass_pieces, pass_if}

-- all rules are plain
abbrev pub ArePlain : List Rule → Type 0
ArePlain rules = Pass is_plain rules

-- ---- Rules of a port

module _ (setting : Setting) (i : PortInfo) where
  plain_choice : (es : List Endpoint) → ArePlain (choice_rules (endpoint_chain setting i) es)
  plain_choice [] = pass_none
  plain_choice (e ∷ []) = pass_one _ refl
  plain_choice (e ∷ f ∷ es) = pass_first _ refl (plain_choice (f ∷ es))

  plain_mark : (all : Bool) (cluster : Option RangeParts) → ArePlain (mark_rules all cluster i)
  plain_mark true cluster = pass_one _ refl
  plain_mark false None = pass_none
  plain_mark false (Some r) = pass_one _ refl

  plain_affinity : (affinity : Option ℕ) (es : List Endpoint) → affinity ≡ None
      → ArePlain (affinity_rules (endpoint_chain setting i) affinity es)
  plain_affinity None es h = pass_none
  plain_affinity (Some seconds) es h = absurd (cc)

  plain_list : i.affinity ≡ None → (internal : Bool) (es : List Endpoint)
      → ArePlain (list_rules setting i internal es)
  plain_list none internal es =
      pass_both (pass_both (pass_if internal
      (λ h. plain_mark setting.config.masquerade_all setting.config.cluster))
      (plain_affinity i.affinity es none)) (plain_choice es)

  plain_pods : (cluster : Option RangeParts) (svc : List ℕ) → ArePlain (pod_rules cluster svc)
  plain_pods None svc = pass_none
  plain_pods (Some r) svc = pass_one _ refl

  plain_external : (outer : Policy) → ArePlain (external_rules setting i outer)
  plain_external Cluster = record { all = refl }
  plain_external Local =
      pass_both (plain_pods setting.config.cluster (port_chain setting i Svc))
      (pass_first _ refl (pass_first _ refl
      (pass_if (not (is_empty i.lists.local)) (λ h. pass_one _ refl))))

  plain_firewall : (ranges : Option (List RangeParts))
      → ArePlain (firewall_chain_rules setting i ranges)
  plain_firewall None = pass_none
  plain_firewall (Some ranges) = pass_map _ ranges (λ r c. refl)

  plain_endpoint : i.affinity ≡ None → (f : Endpoint) → ArePlain (endpoint_rules setting i f)
  plain_endpoint none f = record {
    all = ap (λ a. list_all is_plain_match (set_seen (endpoint_chain setting i f) a) && true) none;
  }

  plain_addresses : (t : Target) (addresses : List AddressParts)
      → ArePlain (map (rule_at i t) addresses)
  plain_addresses t addresses = pass_map (rule_at i t) addresses (λ a c. refl)

  plain_service_block : ArePlain (service_block setting i)
  plain_service_block =
      pass_both (pass_if (not (is_empty (internal_list i))) (λ h. pass_one _ refl))
      (pass_if i.lists.has_any
      (λ h. pass_both (plain_addresses _ i.external) (plain_addresses _ i.balancer)))

  plain_node_port : (t : Target) (port : Option ℕ) → ArePlain (node_port_rules i t port)
  plain_node_port t None = pass_none
  plain_node_port t (Some n) = pass_one _ refl

  plain_node_block : ArePlain (node_port_block setting i)
  plain_node_block = pass_if i.lists.has_any (λ h. plain_node_port _ i.node_port)

  plain_firewall_block : ArePlain (firewall_block i)
  plain_firewall_block = pass_if (has_firewall i) (λ h. plain_addresses target.Drop i.balancer)

  plain_node_refusal : (t : Target) (port : Option ℕ)
      → ArePlain (node_port_refusal setting.family i t port)
  plain_node_refusal t None = pass_none
  plain_node_refusal t (Some n) = pass_one _ refl

  plain_external_block : ArePlain (external_block setting.family i)
  plain_external_block =
      pass_if (is_empty (external_list i))
      (λ h. pass_both (pass_both (plain_addresses _ i.external) (plain_addresses _ i.balancer))
      (plain_node_refusal _ i.node_port))

  plain_refusal_block : ArePlain (refusal_block i)
  plain_refusal_block = pass_if (is_empty (internal_list i)) (λ h. pass_one _ refl)

-- ---- Rows

-- a row's rules are plain
abbrev pub is_plain_row : Row → Bool
is_plain_row r = list_all is_plain r.1

-- all rows' rules are
abbrev pub ArePlainRows : List Row → Type 0
ArePlainRows rows = Pass is_plain_row rows

module _ (setting : Setting) where
  plain_key : (i : PortInfo) → i.affinity ≡ None → (k : ChainKey)
      → ArePlain (rules_of_key setting i k)
  plain_key i none (key.Port Svc port) = plain_list setting i none _ i.lists.cluster
  plain_key i none (key.Port Svl port) = plain_list setting i none _ i.lists.local
  plain_key i none (key.Port Ext port) = plain_external setting i i.outer
  plain_key i none (key.Port Fw port) = plain_firewall setting i i.ranges
  plain_key i none (key.Sep port e) = plain_endpoint setting i none e

  plain_port : (i : PortInfo) → i.affinity ≡ None → ArePlainRows (port_rows setting i)
  plain_port i none = pass_map (row_of_key setting i) (own_keys i) (λ k c. (plain_key i none k).all)

  module _ (infos : List PortInfo) where
    plain_nat : ArePlainRows (nat_rows setting infos)
    plain_nat = record {
      all =
          and_from _ _
          (pass_pieces (node_port_block setting) infos (λ i c. plain_node_block setting i)).all
          (and_from _ _ (pass_both
          (pass_pieces (service_block setting) infos (λ i c. plain_service_block setting i))
          (pass_one (rule_of (own_addresses setting.family) (target.Jump kube_node_ports))
          refl)).all refl);
    }

    plain_filter : ArePlainRows (filter_rows setting.family infos)
    plain_filter = record {
      all =
          and_from _ _ (pass_pieces firewall_block infos (λ i c. plain_firewall_block setting i)).all
          (and_from _ _ (pass_pieces (external_block setting.family) infos
          (λ i c. plain_external_block setting i)).all
          (and_from _ _ (pass_pieces refusal_block infos
          (λ i c. plain_refusal_block setting i)).all refl));
    }

    plain_all : ((i : PortInfo) → Contains infos i → i.affinity ≡ None)
        → ArePlainRows (rows_of setting infos)
    plain_all none = pass_both (pass_both plain_nat plain_filter)
        (pass_pieces (port_rows setting) infos (λ i c. plain_port i (none i c)))

found_plain : (q : ChainAt) (rows : List Row) (rules : List Rule)
    → list_all is_plain_row rows ≡ true → find chain_cmp q rows ≡ Some rules
    → list_all is_plain rules ≡ true
found_plain q [] rules h k = absurd (cc)
found_plain q (r ∷ rows) rules h k = by_place (eq_by_cmp chain_cmp q r.0) k
    (found_plain q rows rules (and_parts (is_plain_row r) (list_all is_plain_row rows) h).1)
  where
    by_place : (b : Bool) → cond b (Some r.1) (find chain_cmp q rows) ≡ Some rules
        → (find chain_cmp q rows ≡ Some rules → list_all is_plain rules ≡ true)
        → list_all is_plain rules ≡ true
    by_place true e later = ap (list_all is_plain) (sym (same_Some r.1 rules e))
        ∙ (and_parts (is_plain_row r) (list_all is_plain_row rows) h).0
    by_place false e later = later e

pub full_table_plain_by : FullTablePlain
full_table_plain_by setting infos none q rules found =
    AllPass-from_list_all is_plain rules (found_plain q (rows_of setting infos) rules
    (plain_all setting infos none).all (sym (get-from_entries chain_total (rows_of setting infos) q)
    ∙ found))
