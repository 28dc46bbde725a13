-- The walk decides a packet as the objects do, where a look-up finds the chains of the ports.
use Rattle.std.proofs.Common.{◌≡◌, ℕ, Bool, true, false, not, ◌&&◌, ◌||◌, List, [], ◌∷◌, Contains, Option, Some, None, option_map, refl, sym, ap, ap₂, subst, ◌∙◌}
use Rattle.kp_base.specs.Net.{AddressParts, is_local_address}
use Rattle.kp_base.specs.declared.key.Endpoint.{Endpoint}
use Rattle.kp_types.specs.Setting.{FamilyConfig, Setting}
use Rattle.kp_types.specs.declared.chain.ChainAt.{ChainAt}
use Rattle.kp_types.specs.declared.packet.Packet.{Packet}
use Rattle.kp_types.specs.declared.packet.Origin.{Origin}
use Rattle.kp_types.specs.declared.packet.Origin.TheVariants.{Wire, Node}
use Rattle.kp_types.specs.declared.rule.Rule.{Rule}
use Rattle.kp_types.specs.declared.verdict.Verdict.{Verdict}
use Rattle.kp_types.specs.declared.verdict.Verdict.TheVariants.{To}
use Rattle.kp_choice_defs.specs.Recent.{RecentParts}
use Rattle.kp_choice_defs.specs.Settings.{pick_by_draws}
use Rattle.kp_object_defs.specs.PortInfo.{PortInfo}
use Rattle.kp_door_defs.specs.Decision.{Translation, translation_of, translated, lists_after, refused_by, by_filter, decision_by, decision_from}
use Rattle.kp_door_defs.specs.Filter.{Refusal, Rejects, DropsClosed, DropsNoLocal, Line, filtered}
use Rattle.kp_door_defs.specs.Marks.{is_from_node}
use Rattle.kp_table_defs.specs.Matching.{WalkState, Surroundings}
use Rattle.kp_table_defs.specs.Walk.{Outcome, sent_to, Journey, Translating, after_hook, is_leaving, onward, verdict_by, walked_by, initial_state, surroundings_of, journey_of, postrouting_if}
use Rattle.kp_table_defs.specs.Walk.Outcome.{Next}
use Rattle.kp_walk_laws.specs.Laws.{Agree, IsKnown}
use Rattle.kp_walk_laws.proofs.Outcomes.{pathless, next_of, ended_of}
use Rattle.kp_walk_laws.proofs.EndpointChains.{marked_if, marked_lists, marked_source}
use Rattle.kp_walk_laws.proofs.Matches.{packet_of}
use Rattle.kp_walk_laws.proofs.DoorRules.{LeadsTo}
use Rattle.kp_walk_laws.proofs.Arrivals.{arrived_state, arriving}
use Rattle.kp_walk_laws.proofs.FirstHook.{FindsNat, first_outcome}
use Rattle.kp_walk_laws.proofs.FilterChains.{FindsFilter}
use Rattle.kp_walk_laws.proofs.Journeys.{verdict_of, line_verdict, journey_at, filter_journey, last_verdict, last_lists}

-- the mark of a state that had none
mark_is : (b : Bool) (s : WalkState) → s.marked ≡ false → (marked_if b s).marked ≡ b
mark_is true s h = refl
mark_is false s h = h

-- the endpoint of a translation
abbrev pub endpoint_of : Translation → Endpoint
endpoint_of t = t.chosen.endpoint

-- the state after the first hook
abbrev pub state_after : FamilyConfig → Surroundings → WalkState → Option Translation → WalkState
state_after config e s None = s
state_after config e s (Some t) = sent_to (arrived_state config e s t) t.chosen.endpoint

-- the packet leaves the node
abbrev leaves : FamilyConfig → Packet → Bool
leaves config p = is_leaving p.from (is_local_address config.addresses p.target)

leaves_by : (from : Origin) (local : Bool)
    → is_leaving from local ≡ (is_from_node from || not local)
leaves_by Wire local = refl
leaves_by Node local = refl

module _ (config : FamilyConfig) (packet : Packet) (draws : ℕ → ℕ) (lists : RecentParts) where
  -- the state after a translation, from the beginning
  abbrev after : Option Translation → WalkState
  after t = state_after config (surroundings_of config.addresses packet draws)
      (initial_state packet lists) t

  packet_after : (t : Option Translation)
      → packet_of (surroundings_of config.addresses packet draws) (after t) ≡ translated packet t
  packet_after None = refl
  packet_after (Some t) =
      ap (λ (a : AddressParts). record packet
      { source = a; target = t.chosen.endpoint.address; port = t.chosen.endpoint.port })
      (marked_source _ _)

  recent_after : (t : Option Translation) → (after t).lists ≡ lists_after t lists
  recent_after None = refl
  recent_after (Some t) = marked_lists _ _

  -- the verdict of the walk is that of the decision
  same_verdict : (t : Option Translation) (line : Option Line)
      → verdict_by (option_map line_verdict line) (option_map endpoint_of t)
      ((after t).marked && leaves config (translated packet t))
      ≡ (by_filter config packet t (lists_after t lists) line).verdict
  same_verdict t (Some l) = by_refusal l.refusal
    where
      by_refusal : (r : Refusal) → verdict_of r
          ≡ (refused_by r l.door (lists_after t lists)).verdict
      by_refusal Rejects = refl
      by_refusal DropsClosed = refl
      by_refusal DropsNoLocal = refl
  same_verdict None None = refl
  same_verdict (Some t) None =
      ap₂ (λ b c. To t.chosen.endpoint (b && c)) (mark_is _ _ refl) (leaves_by packet.from _)

  same_lists : (t : Option Translation) (line : Option Line)
      → lists_after t lists ≡ (by_filter config packet t (lists_after t lists) line).lists
  same_lists t (Some l) = by_refusal l.refusal
    where
      by_refusal : (r : Refusal) → lists_after t lists
          ≡ (refused_by r l.door (lists_after t lists)).lists
      by_refusal Rejects = refl
      by_refusal DropsClosed = refl
      by_refusal DropsNoLocal = refl
  same_lists None None = refl
  same_lists (Some t) None = refl

module _ (setting : Setting) (infos : List PortInfo) (packet : Packet) (draws : ℕ → ℕ)
    (lists : RecentParts) (at : ChainAt → Option (List Rule)) where
  -- the surroundings of the packet
  abbrev e : Surroundings
  e = surroundings_of setting.config.addresses packet draws

  -- and its state at first
  abbrev s : WalkState
  s = initial_state packet lists

  -- the journey from a translation on
  abbrev journey_from : Option Translation → List (List (List ℕ)) → Journey
  journey_from t trail =
      journey_at (state_after setting.config e s t) (option_map endpoint_of t) None trail

  -- the first hook translates
  translated_journey : (t : Option Translation) (o : Outcome)
      → pathless o ≡ pathless (arriving (Next s) setting e s t)
      → (trail : List (List (List ℕ)))
      × (after_hook Translating (journey_at s None None []) o ≡ journey_from t trail)
  translated_journey None o h =
      ([], ap (after_hook Translating (journey_at s None None [])) (next_of o s h))
  translated_journey (Some t) o h =
      let (path, is) = ended_of o _ _ h in
      (path ∷ [], ap (after_hook Translating (journey_at s None None [])) is)

  -- from a translation on, the walk goes as the decision does
  decided : FindsNat setting infos at → FindsFilter setting.family infos at
      → ((i : PortInfo) (k : ℕ) → Contains infos i → i.node_port ≡ Some k
      → i.address.family ≡ setting.family)
      → (t : Option Translation) (trail : List (List (List ℕ)))
      → Agree (walked_by (onward e at (journey_from t trail)))
      (decision_by setting.config infos packet lists t)
  decided nat filter family t trail =
      let config : FamilyConfig = setting.config in
      let u : WalkState = state_after config e s t in
      let to : Option Endpoint = option_map endpoint_of t in
      let line : Packet → Option Line = filtered config infos in
      let stopped : Option Verdict = option_map line_verdict (line (packet_of e u)) in
      let leaving : Bool = leaves config (packet_of e u) in
      let (later, refused) =
      filter_journey config _ infos e refl at filter u to family e.from trail in
      subst (λ j. Agree (walked_by (postrouting_if leaving e at j))
      (decision_by config infos packet lists t)) (sym refused) (record {
        verdict =
            last_verdict setting infos e at nat u to later stopped leaving
            ∙ ap (λ p. verdict_by (option_map line_verdict (line p)) to
            (u.marked && leaves config p)) (packet_after config packet draws lists t)
            ∙ same_verdict config packet draws lists t _;
        lists =
            last_lists setting infos e at nat u to later stopped leaving
            ∙ recent_after config packet draws lists t ∙ same_lists config packet draws lists t _;
      })

  -- where a look-up finds the shared chains, and those of the ports do what their doors do, walking
  -- decides as the objects do
  pub walk_agrees : setting.pick ≡ pick_by_draws → FindsNat setting infos at
      → FindsFilter setting.family infos at
      → ((i : PortInfo) → Contains infos i → IsKnown setting.family i × LeadsTo setting e at s i)
      → Agree (walked_by (journey_of e at s)) (decision_from setting infos packet draws lists)
  walk_agrees by_draws nat filter ports =
      let t : Option Translation = translation_of setting infos packet draws lists in
      let (trail, first) = translated_journey t _
      (first_outcome setting by_draws infos e refl at nat s ports packet.from) in
      subst (λ j. Agree (walked_by (onward e at j)) (decision_by setting.config infos packet lists t))
      (sym first) (decided nat filter (λ i k c h. (ports i c).0.address) t trail)
