-- What the chain of what comes in from outside does: by the external traffic policy it goes to the
-- chain of a list, and it comes back where that list is empty, with the packet as it was.
use Rattle.std.proofs.Common.{◌≡◌, ℕ, suc, Bool, true, false, not, cond, ◌&&◌, ◌||◌, List, [], ◌∷◌, Option, Some, None, refl, sym, ap, ap₂, ◌∙◌, true≢false}
use Rattle.std.proofs.Math.Bool.{and-false}
use Rattle.kp_base.specs.Net.{RangeParts, is_local_address}
use Rattle.kp_types.specs.Setting.{Setting}
use Rattle.kp_types.specs.Rules.{rule_of}
use Rattle.kp_types.specs.Ports.{same_proto}
use Rattle.kp_types.specs.declared.chain.TableName.TheVariants.{Nat}
use Rattle.kp_types.specs.declared.chain.ChainAt.{ChainAt}
use Rattle.kp_types.specs.declared.chain.PortChain.TheVariants.{Svc, Svl}
use Rattle.kp_types.specs.declared.rule.Match.TheVariants as match
use Rattle.kp_types.specs.declared.rule.Rule.{Rule}
use Rattle.kp_types.specs.declared.rule.Target.{Target}
use Rattle.kp_types.specs.declared.rule.Target.TheVariants as target
use Rattle.kp_types.specs.declared.service.Policy.{Policy}
use Rattle.kp_types.specs.declared.service.Policy.TheVariants.{Cluster, Local}
use Rattle.kp_types.specs.declared.walk.Ending.TheVariants as ending
use Rattle.kp_choice_defs.specs.Settings.{pick_by_draws}
use Rattle.kp_object_defs.specs.Desired.{is_empty}
use Rattle.kp_object_defs.specs.Lists.{is_local_policy, list_by_policy}
use Rattle.kp_object_defs.specs.PortInfo.{PortInfo, internal_list}
use Rattle.kp_door_defs.specs.Choice.{Chosen}
use Rattle.kp_door_defs.specs.Doors.{Offer, is_in_cluster, is_in_range, offer_by_policy, outer_offer}
use Rattle.kp_door_defs.specs.Marks.{marked_outside}
use Rattle.kp_table_defs.specs.Layout.{mark_masq, jump_to, pod_rules, external_rules, rules_if, chain_of_policy, endpoint_chain, port_chain}
use Rattle.kp_table_defs.specs.Matching.{WalkState, Surroundings, tried_as}
use Rattle.kp_table_defs.specs.Walk.{Outcome, and_then, found_outcome, returned_from, target_if, rule_outcome, rules_outcome, chain_outcome}
use Rattle.kp_table_defs.specs.Walk.Outcome.{Next, Ended}
use Rattle.kp_walk_laws.proofs.Outcomes.{and_then_next, rules_append}
use Rattle.kp_walk_laws.proofs.Matches.{packet_of, rule_if, tried_alone}
use Rattle.kp_walk_laws.proofs.EndpointChains.{marked_if, mark_outcome}
use Rattle.kp_walk_laws.proofs.ListChains.{is_for_address, list_outcome, marks_packet}
use Rattle.kp_walk_laws.proofs.Arrivals.{FindsChains, chosen_outcome, offer_last, offer_outcome}
use Rattle.kp_walk_laws.proofs.PortLookups.{in_either}

-- ---- The chain of a policy's list

-- the chain of a policy's list marks packets to the cluster address where the policy is internal
abbrev pub marks_inside : Policy → PortInfo → Bool
marks_inside Cluster i = not (is_local_policy i.internal)
marks_inside Local i = is_local_policy i.internal

module _ (setting : Setting) (by_draws : setting.pick ≡ pick_by_draws) (e : Surroundings)
    (at : ChainAt → Option (List Rule))
    (mark : at (record { table = Nat; chain = mark_masq }) ≡ Some (rule_of [] target.SetMark ∷ []))
    (i : PortInfo) (finds : FindsChains setting at i)
    (proto : same_proto i.key.proto e.proto ≡ true) where
  -- a jump to the chain of a policy's list
  pub policy_outcome : (p : Policy) → not (is_empty (list_by_policy p i.lists)) ≡ true → (n : ℕ)
      (s : WalkState) → s.used ≡ 0
      → chain_outcome e at Nat (suc (suc (suc n))) (port_chain setting i (chain_of_policy p)) s
      ≡ offer_outcome setting i e (marks_inside p i && marks_packet setting.config.masquerade_all
      setting.config.cluster i (packet_of e s)) s (offer_by_policy i p)
  policy_outcome Cluster some n s fresh =
      ap (λ o. found_outcome e (chain_outcome e at Nat (suc (suc n))) (port_chain setting i Svc) o
      s) (finds.port Svc some)
      ∙ ap (returned_from (port_chain setting i Svc)) (list_outcome setting by_draws e at mark i
      proto _ _ some (λ f c. finds.endpoint f (in_either i Cluster f c)) n s fresh)
  policy_outcome Local some n s fresh =
      ap (λ o. found_outcome e (chain_outcome e at Nat (suc (suc n))) (port_chain setting i Svl) o
      s) (finds.port Svl some)
      ∙ ap (returned_from (port_chain setting i Svl)) (list_outcome setting by_draws e at mark i
      proto _ _ some (λ f c. finds.endpoint f (in_either i Local f c)) n s fresh)

  -- ---- By the external traffic policy

  -- the chain of a list marks no packet that the port's cluster door would have taken
  unmarked_by : (p q : Policy) (here rest : Bool) → i.internal ≡ q
      → not (is_empty (list_by_policy p i.lists)) ≡ true
      → (here ≡ true → is_empty (list_by_policy q i.lists) ≡ true)
      → (marks_inside p i && (here && rest)) ≡ false
  unmarked_by Cluster Cluster true rest h some passed =
      absurd (true≢false (sym some ∙ ap not (passed refl)))
  unmarked_by Cluster Cluster false rest h some passed =
      ap (λ q. not (is_local_policy q) && false) h
  unmarked_by Cluster Local here rest h some passed =
      ap (λ q. not (is_local_policy q) && (here && rest)) h
  unmarked_by Local Local true rest h some passed =
      absurd (true≢false (sym some ∙ ap not (passed refl)))
  unmarked_by Local Local false rest h some passed = ap (λ q. is_local_policy q && false) h
  unmarked_by Local Cluster here rest h some passed =
      ap (λ q. is_local_policy q && (here && rest)) h

  module _ (n : ℕ) (s : WalkState) (fresh : s.used ≡ 0)
      (passed : is_for_address i (packet_of e s) ≡ true → is_empty (internal_list i) ≡ true)
      (some : not (is_empty i.lists.cluster) ≡ true) where
    -- what a jump does
    abbrev jump : List ℕ → WalkState → Outcome
    jump = chain_outcome e at Nat (suc (suc (suc n)))

    -- the state with the mark set
    abbrev with_mark : WalkState
    with_mark = record s { marked = true }

    list_jump : (p : Policy) → not (is_empty (list_by_policy p i.lists)) ≡ true
        → jump (port_chain setting i (chain_of_policy p)) s
        ≡ offer_outcome setting i e false s (offer_by_policy i p)
    list_jump p h =
        policy_outcome p h n s fresh
        ∙ ap (λ m. offer_outcome setting i e m s (offer_by_policy i p))
        (unmarked_by p i.internal _ _ refl h passed)

    same_mark : (own : Bool) (c : Chosen) (used : ℕ)
        → marked_if (own || false) (record with_mark { used = used; lists = c.lists })
        ≡ marked_if (own || true) (record s { used = used; lists = c.lists })
    same_mark true c used = refl
    same_mark false c used = refl

    marked_choice : (used : ℕ) (c : Option Chosen)
        → chosen_outcome setting i e false used with_mark c
        ≡ chosen_outcome setting i e true used s c
    marked_choice used None = refl
    marked_choice used (Some c) =
        ap (Ended (ending.Dnat c.endpoint) (endpoint_chain setting i c.endpoint ∷ []))
        (same_mark _ c _)

    -- the chain of the cluster list, for a packet that was marked
    marked_jump : jump (port_chain setting i Svc) with_mark
        ≡ offer_outcome setting i e true s (offer_by_policy i Cluster)
    marked_jump =
        policy_outcome Cluster some n with_mark fresh
        ∙ ap (λ m. offer_outcome setting i e m with_mark (offer_by_policy i Cluster))
        (unmarked_by Cluster i.internal _ _ refl some passed)
        ∙ ap (returned_from (port_chain setting i Svc)) (marked_choice _ _)

    -- packets of the cluster's range go to all endpoints
    pod_outcome : (cluster : Option RangeParts)
        → rules_outcome e jump (pod_rules cluster (port_chain setting i Svc)) s
        ≡ target_if (is_in_range cluster s.source) jump (target.Jump (port_chain setting i Svc)) s
    pod_outcome None = refl
    pod_outcome (Some r) =
        and_then_next _ ∙ rule_if e jump s (match.Src r false ∷ []) _ _ (tried_alone s _)

    -- a rule for the node's own packets
    own_rule : (t : Target) (b : Bool) → is_local_address e.node_addresses s.source ≡ b
        → rule_outcome e jump (rule_of (match.SrcLocal ∷ []) t) s ≡ target_if b jump t s
    own_rule t b h = rule_if e jump s (match.SrcLocal ∷ []) t b
        (tried_alone s _ ∙ ap (tried_as s) h)

    -- the rule for the local list, where it isn't empty
    local_outcome : (b : Bool) → not (is_empty i.lists.local) ≡ b
        → rules_outcome e jump (rules_if b (jump_to (port_chain setting i Svl) ∷ [])) s
        ≡ cond b (offer_outcome setting i e false s (offer_by_policy i Local)) (Next s)
    local_outcome true h = and_then_next _ ∙ list_jump Local h
    local_outcome false h = refl

    -- the rules behind those for pods
    abbrev rest : List Rule
    rest = rule_of (match.SrcLocal ∷ []) (target.Jump mark_masq)
        ∷ rule_of (match.SrcLocal ∷ []) (target.Jump (port_chain setting i Svc))
        ∷ rules_if (not (is_empty i.lists.local)) (jump_to (port_chain setting i Svl) ∷ [])

    rest_outcome : (b : Bool) → is_local_address e.node_addresses s.source ≡ b
        → rules_outcome e jump rest s
        ≡ cond b (offer_outcome setting i e true s (offer_by_policy i Cluster))
        (cond (not (is_empty i.lists.local))
        (offer_outcome setting i e false s (offer_by_policy i Local)) (Next s))
    rest_outcome true h =
        let last : WalkState → Outcome = rules_outcome e jump (rules_if
        (not (is_empty i.lists.local)) (jump_to (port_chain setting i Svl) ∷ [])) in
        let to_svc : Rule =
        rule_of (match.SrcLocal ∷ []) (target.Jump (port_chain setting i Svc)) in
        ap (λ o. and_then o (λ t. and_then (rule_outcome e jump to_svc t) last))
        (own_rule _ true h ∙ mark_outcome e at mark (suc (suc n)) s)
        ∙ ap (λ o. and_then o last)
        (rule_if e jump with_mark (match.SrcLocal ∷ []) (target.Jump (port_chain setting i Svc))
        true (tried_alone with_mark _
        ∙ ap (tried_as with_mark) h) ∙ marked_jump)
        ∙ (offer_last setting i e true s [] (offer_by_policy i Cluster)).stays last
    rest_outcome false h =
        let last : WalkState → Outcome = rules_outcome e jump (rules_if
        (not (is_empty i.lists.local)) (jump_to (port_chain setting i Svl) ∷ [])) in
        let to_svc : Rule =
        rule_of (match.SrcLocal ∷ []) (target.Jump (port_chain setting i Svc)) in
        ap (λ o. and_then o (λ t. and_then (rule_outcome e jump to_svc t) last))
        (own_rule _ false h) ∙ ap (λ o. and_then o last) (own_rule _ false h) ∙ local_outcome _ refl

    -- what is done with an offer
    abbrev pub taken_if_any : Bool → Offer → Outcome
    taken_if_any marked o =
        cond (not (is_empty o.endpoints)) (offer_outcome setting i e marked s o) (Next s)

    local_policy : (pod local : Bool) → is_local_address e.node_addresses s.source ≡ local
        → and_then (target_if pod jump (target.Jump (port_chain setting i Svc)) s)
        (rules_outcome e jump rest)
        ≡ taken_if_any (local && not pod)
        (cond (pod || local) (offer_by_policy i Cluster) (offer_by_policy i Local))
    local_policy true local h =
        let cluster : Offer = offer_by_policy i Cluster in
        ap (λ o. and_then o (rules_outcome e jump rest)) (list_jump Cluster some)
        ∙ (offer_last setting i e false s [] cluster).stays (rules_outcome e jump rest)
        ∙ ap₂ (λ b m. cond b (offer_outcome setting i e m s cluster) (Next s)) (sym some)
        (sym (and-false local))
    local_policy false true h =
        rest_outcome true h
        ∙ ap (λ b. cond b (offer_outcome setting i e true s (offer_by_policy i Cluster)) (Next s))
        (sym some)
    local_policy false false h = rest_outcome false h

    -- the rules of the chain of what comes in from outside
    pub external_outcome : e.node_addresses ≡ setting.config.addresses → (p : Policy)
        → rules_outcome e jump (external_rules setting i p) s
        ≡ taken_if_any (marked_outside setting.config p s.source)
        (outer_offer setting.config i p s.source)
    external_outcome own Cluster =
        ap (λ o. and_then o (rules_outcome e jump (jump_to (port_chain setting i Svc) ∷ [])))
        (mark_outcome e at mark (suc (suc n)) s)
        ∙ and_then_next _ ∙ marked_jump
        ∙ ap (λ b. cond b (offer_outcome setting i e true s (offer_by_policy i Cluster)) (Next s))
        (sym some)
    external_outcome own Local =
        let pod : Bool = is_in_cluster setting.config s.source in
        rules_append e jump (pod_rules setting.config.cluster (port_chain setting i Svc)) rest s
        ∙ ap (λ o. and_then o (rules_outcome e jump rest)) (pod_outcome _)
        ∙ local_policy pod _ refl
        ∙ ap (λ addresses. taken_if_any (is_local_address addresses s.source && not pod)
        (cond (pod || is_local_address addresses s.source) (offer_by_policy i Cluster)
        (offer_by_policy i Local))) own
