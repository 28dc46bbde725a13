-- Rules of the full table that send packets nowhere by themselves: all of nat but those of endpoints' chains.
use Rattle.std.proofs.Common.{◌≡◌, ℕ, Bool, true, false, not, cond, ◌&&◌, List, [], ◌∷◌, map, Contains, Option, Some, None, is_some, refl, ap, ◌∙◌}
use Rattle.std.specs.List.{cons_option, filter_map, list_all, list_any}
use Rattle.std.proofs.lemmas.Bool.{and_from, and_parts}
use Rattle.kp_base.specs.Net.{AddressParts, RangeParts}
use Rattle.kp_base.specs.declared.address.Family.{Family}
use Rattle.kp_base.specs.declared.address.Family.TheVariants.{V4, V6}
use Rattle.kp_base.specs.declared.key.Endpoint.{Endpoint}
use Rattle.kp_base.specs.declared.key.PortKey.{PortKey}
use Rattle.kp_types.specs.Rules.{rule_of}
use Rattle.kp_types.specs.Setting.{Setting}
use Rattle.kp_types.specs.declared.chain.PortChain.{PortChain}
use Rattle.kp_types.specs.declared.chain.PortChain.TheVariants.{Svc, Svl, Ext, Fw}
use Rattle.kp_types.specs.declared.rule.Rule.{Rule}
use Rattle.kp_types.specs.declared.rule.Target.TheVariants as target
use Rattle.kp_types.specs.declared.service.Policy.{Policy}
use Rattle.kp_types.specs.declared.service.Policy.TheVariants.{Cluster, Local}
use Rattle.kp_object_defs.specs.Desired.{is_empty}
use Rattle.kp_object_defs.specs.PortInfo.{PortInfo, internal_list}
use Rattle.kp_table_defs.specs.Layout.{affinity_rules, balancer_chain, chain_of_policy, choice_rules, endpoint_chain, external_rules, filter_rows, firewall_chain_rules, kube_node_ports, list_rules, mark_rules, nat_rows, node_port_block, node_port_rules, own_addresses, pod_rules, port_chain, rule_at, rules_of_kind, service_block}
use Rattle.kp_table_laws.proofs.KeyRows.{Row}
use Rattle.kp_walk_laws.proofs.Passing.{Pass, pass_both, pass_first, pass_if, pass_map, pass_none, pass_one, pass_pieces}
use Rattle.kp_conntrack.specs.Standing.{is_nat, is_udp, sent_by, udp_target}

-- a rule sends nowhere
abbrev pub is_still : Rule → Bool
is_still r = not (is_some (sent_by r.target))

abbrev pub AreStill : List Rule → Type 0
AreStill rules = Pass is_still rules

-- such rules have no targets
pub none_sent : (rules : List Rule) → list_all is_still rules ≡ true → filter_map udp_target rules ≡ []
none_sent [] h = refl
none_sent (r ∷ rules) h =
    let both = and_parts (is_still r) (list_all is_still rules) h in
    by (list_any is_udp r.matches.items) (sent_by r.target) both.0 (none_sent rules both.1)
  where
    by : (udp : Bool) (sent : Option Endpoint) → not (is_some sent) ≡ true
        → filter_map udp_target rules ≡ []
        → cons_option (cond udp sent None) (filter_map udp_target rules) ≡ []
    by true None still rest = rest
    by true (Some e) still rest = absurd (cc)
    by false sent still rest = rest

module _ (setting : Setting) (i : PortInfo) where
  still_choice : (es : List Endpoint) → AreStill (choice_rules (endpoint_chain setting i) es)
  still_choice [] = pass_none
  still_choice (e ∷ []) = pass_one _ refl
  still_choice (e ∷ f ∷ es) = pass_first _ refl (still_choice (f ∷ es))

  still_mark : (all : Bool) (cluster : Option RangeParts) → AreStill (mark_rules all cluster i)
  still_mark true cluster = pass_one _ refl
  still_mark false None = pass_none
  still_mark false (Some r) = pass_one _ refl

  still_affinity : (affinity : Option ℕ) (es : List Endpoint)
      → AreStill (affinity_rules (endpoint_chain setting i) affinity es)
  still_affinity None es = pass_none
  still_affinity (Some seconds) es = pass_map _ es (λ e c. refl)

  still_list : (internal : Bool) (es : List Endpoint) → AreStill (list_rules setting i internal es)
  still_list internal es =
      pass_both (pass_both (pass_if internal
      (λ h. still_mark setting.config.masquerade_all setting.config.cluster))
      (still_affinity i.affinity es)) (still_choice es)

  still_pods : (cluster : Option RangeParts) (svc : List ℕ) → AreStill (pod_rules cluster svc)
  still_pods None svc = pass_none
  still_pods (Some r) svc = pass_one _ refl

  still_external : (outer : Policy) → AreStill (external_rules setting i outer)
  still_external Cluster = record { all = refl }
  still_external Local =
      pass_both (still_pods setting.config.cluster (port_chain setting i Svc))
      (pass_first _ refl (pass_first _ refl
      (pass_if (not (is_empty i.lists.local)) (λ h. pass_one _ refl))))

  still_firewall : (ranges : Option (List RangeParts))
      → AreStill (firewall_chain_rules setting i ranges)
  still_firewall None = pass_none
  still_firewall (Some ranges) = pass_map _ ranges (λ r c. refl)

  -- a port's chain of any kind
  pub still_kind : (kind : PortChain) → AreStill (rules_of_kind setting i kind)
  still_kind Svc = still_list _ i.lists.cluster
  still_kind Svl = still_list _ i.lists.local
  still_kind Ext = still_external i.outer
  still_kind Fw = still_firewall i.ranges

  still_addresses : (chain : List ℕ) (addresses : List AddressParts)
      → AreStill (map (rule_at i (target.Jump chain)) addresses)
  still_addresses chain addresses =
      pass_map (rule_at i (target.Jump chain)) addresses (λ a c. refl)

  still_service_block : AreStill (service_block setting i)
  still_service_block =
      pass_both (pass_if (not (is_empty (internal_list i))) (λ h. pass_one _ refl))
      (pass_if i.lists.has_any
      (λ h. pass_both (still_addresses _ i.external) (still_addresses _ i.balancer)))

  still_node_port : (chain : List ℕ) (port : Option ℕ)
      → AreStill (node_port_rules i (target.Jump chain) port)
  still_node_port chain None = pass_none
  still_node_port chain (Some n) = pass_one _ refl

  still_node_block : AreStill (node_port_block setting i)
  still_node_block = pass_if i.lists.has_any (λ h. still_node_port _ i.node_port)

-- a row's rules are still
abbrev pub is_still_row : Row → Bool
is_still_row r = list_all is_still r.1

-- those of the fixed chains of nat
pub still_nat : (setting : Setting) (infos : List PortInfo) → Pass is_still_row (nat_rows setting infos)
still_nat setting infos = record {
  all =
      and_from _ _
      (pass_pieces (node_port_block setting) infos (λ i c. still_node_block setting i)).all
      (and_from _ _ (pass_both
      (pass_pieces (service_block setting) infos (λ i c. still_service_block setting i))
      (pass_one (rule_of (own_addresses setting.family) (target.Jump kube_node_ports))
      refl)).all refl);
}

-- those of filter stand in no table of nat
abbrev pub is_beside : Row → Bool
is_beside r = not (is_nat r.0.table)

pub filter_beside : (family : Family) (infos : List PortInfo)
    → list_all is_beside (filter_rows family infos) ≡ true
filter_beside V4 infos = refl
filter_beside V6 infos = refl
