-- What the chain of a list does: it marks what comes to the cluster address from outside the
-- cluster, and goes to the endpoint that is chosen.
use Rattle.std.proofs.Common.{◌≡◌, ℕ, suc, ◌==◌, Bool, true, false, not, ◌&&◌, ◌||◌, List, [], ◌∷◌, ◌++◌, length, Contains, Option, Some, None, is_some, refl, sym, ap, ◌∙◌}
use Rattle.std.proofs.Math.Bool.{and_comm, and-false, and-true}
use Rattle.kp_base.specs.Net.{RangeParts, same_address, single_range, range_contains}
use Rattle.kp_base.specs.declared.key.Endpoint.{Endpoint}
use Rattle.kp_types.specs.Setting.{Setting}
use Rattle.kp_types.specs.Rules.{rule_of}
use Rattle.kp_types.specs.Ports.{same_proto}
use Rattle.kp_types.specs.declared.chain.TableName.TheVariants.{Nat}
use Rattle.kp_types.specs.declared.chain.ChainAt.{ChainAt}
use Rattle.kp_types.specs.declared.packet.Packet.{Packet}
use Rattle.kp_types.specs.declared.rule.Match.TheVariants as match
use Rattle.kp_types.specs.declared.rule.Rule.{Rule}
use Rattle.kp_types.specs.declared.rule.Target.TheVariants as target
use Rattle.kp_choice_defs.specs.Settings.{pick_by_draws}
use Rattle.kp_object_defs.specs.Desired.{is_empty}
use Rattle.kp_object_defs.specs.PortInfo.{PortInfo}
use Rattle.kp_door_defs.specs.Choice.{chosen_endpoint}
use Rattle.kp_door_defs.specs.Doors.{is_in_range}
use Rattle.kp_table_defs.specs.Matching.{WalkState, Surroundings, try_all}
use Rattle.kp_table_defs.specs.Layout.{mark_masq, mark_rules, affinity_rules, choice_rules, list_rules, rules_if, rule_at, endpoint_chain, endpoint_rules}
use Rattle.kp_table_defs.specs.Walk.{Outcome, and_then, rule_outcome, rules_outcome, chain_outcome}
use Rattle.kp_table_defs.specs.Walk.Outcome.{Next}
use Rattle.kp_walk_laws.proofs.Outcomes.{and_then_next, rules_append}
use Rattle.kp_walk_laws.proofs.Matches.{packet_of, rule_if, door_tried, tried_before}
use Rattle.kp_walk_laws.proofs.EndpointChains.{marked_if, mark_by, endpoint_outcome}
use Rattle.kp_walk_laws.proofs.Arrivals.{chosen_outcome}
use Rattle.kp_walk_laws.proofs.Choices.{chooses}

-- the packet is for the cluster address of a port
abbrev pub is_for_address : PortInfo → Packet → Bool
is_for_address i p =
    same_address i.address p.target && (same_proto i.key.proto p.proto && (i.number == p.port))

-- the mark rule of a cluster address takes the packet
abbrev pub marks_packet : Bool → Option RangeParts → PortInfo → Packet → Bool
marks_packet all cluster i p =
    is_for_address i p && (all || (is_some cluster && not (is_in_range cluster p.source)))

module _ (e : Surroundings) (at : ChainAt → Option (List Rule))
    (mark : at (record { table = Nat; chain = mark_masq }) ≡ Some (rule_of [] target.SetMark ∷ []))
  where
    -- a rule that jumps to the mark
    marking_rule : (n : ℕ) (rule : Rule) (b c : Bool) (s : WalkState)
        → rule_outcome e (chain_outcome e at Nat (suc n)) rule s ≡ Next (marked_if b s) → b ≡ c
        → rules_outcome e (chain_outcome e at Nat (suc n)) (rule ∷ []) s ≡ Next (marked_if c s)
    marking_rule n rule b c s h same = and_then_next _ ∙ h ∙ ap (λ x. Next (marked_if x s)) same

    -- the mark rules of a cluster address
    pub mark_rules_outcome : (n : ℕ) (all : Bool) (cluster : Option RangeParts) (i : PortInfo)
        (s : WalkState)
        → rules_outcome e (chain_outcome e at Nat (suc n)) (mark_rules all cluster i) s
        ≡ Next (marked_if (marks_packet all cluster i (packet_of e s)) s)
    mark_rules_outcome n true cluster i s =
        let jump : List ℕ → WalkState → Outcome = chain_outcome e at Nat (suc n) in
        let here : Bool = is_for_address i (packet_of e s) in
        marking_rule n (rule_at i (target.Jump mark_masq) i.address) here _ s
        (rule_if e jump s (match.Dst (single_range i.address) false
        ∷ match.Port i.key.proto i.number
        ∷ []) _ here (door_tried e jump s i.address i.key.proto i.number)
        ∙ mark_by e at mark n here s) (sym (and-true here))
    mark_rules_outcome n false None i s = ap (λ x. Next (marked_if x s)) (sym (and-false _))
    mark_rules_outcome n false (Some cluster) i s =
        let jump : List ℕ → WalkState → Outcome = chain_outcome e at Nat (suc n) in
        let here : Bool = is_for_address i (packet_of e s) in
        let outside : Bool = not (range_contains cluster s.source) in
        marking_rule n (rule_of (match.Src cluster true ∷ match.Dst (single_range i.address) false
        ∷ match.Port i.key.proto i.number ∷ []) (target.Jump mark_masq)) _ _ s
        (rule_if e jump s (match.Src cluster true ∷ match.Dst (single_range i.address) false
        ∷ match.Port i.key.proto i.number ∷ []) _ _ (tried_before s outside here (try_all e
        (match.Dst (single_range i.address) false ∷ match.Port i.key.proto i.number ∷ []))
        (door_tried e jump s i.address i.key.proto i.number))
        ∙ mark_by e at mark n _ s) (and_comm outside here)

    -- the mark rules where they stand
    pub marks_if : (n : ℕ) (internal all : Bool) (cluster : Option RangeParts) (i : PortInfo)
        (s : WalkState)
        → rules_outcome e (chain_outcome e at Nat (suc n))
        (rules_if internal (mark_rules all cluster i)) s
        ≡ Next (marked_if (internal && marks_packet all cluster i (packet_of e s)) s)
    marks_if n true all cluster i s = mark_rules_outcome n all cluster i s
    marks_if n false all cluster i s = refl

module _ (setting : Setting) (by_draws : setting.pick ≡ pick_by_draws) (e : Surroundings)
    (at : ChainAt → Option (List Rule))
    (mark : at (record { table = Nat; chain = mark_masq }) ≡ Some (rule_of [] target.SetMark ∷ []))
    (i : PortInfo) (proto : same_proto i.key.proto e.proto ≡ true) where
  -- the chain of a list that isn't empty
  pub list_outcome : (internal : Bool) (es : List Endpoint) → not (is_empty es) ≡ true
      → ((f : Endpoint) → Contains es f
      → at (record { table = Nat; chain = endpoint_chain setting i f })
      ≡ Some (endpoint_rules setting i f))
      → (n : ℕ) (s : WalkState) → s.used ≡ 0
      → rules_outcome e (chain_outcome e at Nat (suc (suc n))) (list_rules setting i internal es) s
      ≡ chosen_outcome setting i e (internal && marks_packet setting.config.masquerade_all
      setting.config.cluster i (packet_of e s)) (length es) s
      (chosen_endpoint setting i.key i.affinity s.source e.now e.draws es s.lists)
  list_outcome internal es some found n s fresh =
      let jump : List ℕ → WalkState → Outcome = chain_outcome e at Nat (suc (suc n)) in
      let marks : List Rule = rules_if internal
      (mark_rules setting.config.masquerade_all setting.config.cluster i) in
      let seen : List Rule = affinity_rules (endpoint_chain setting i) i.affinity es in
      let draws : List Rule = choice_rules (endpoint_chain setting i) es in
      rules_append e jump (marks ++ seen) draws s
      ∙ ap (λ o. and_then o (rules_outcome e jump draws)) (rules_append e jump marks seen s
      ∙ ap (λ o. and_then o (rules_outcome e jump seen)) (marks_if e at mark (suc n) internal
      _ _ i s))
      ∙ chooses setting i e by_draws jump es some
      (λ f c u. endpoint_outcome e at mark setting i f (found f c) n u proto) _ s fresh
