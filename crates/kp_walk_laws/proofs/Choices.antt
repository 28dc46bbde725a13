-- What the chain of a list does, with or without session affinity: the packet goes to the endpoint
-- that is chosen for it.
use Rattle.std.proofs.Common.{◌≡◌, ℕ, ◌-◌, ◌^◌, min, Bool, true, false, not, ◌||◌, List, [], ◌∷◌, length, Contains, Option, Some, None, is_some, option_map, refl, sym, ap, ap₂, ◌∙◌}
use Rattle.kp_base.specs.Net.{same_address}
use Rattle.kp_base.specs.declared.key.Endpoint.{Endpoint}
use Rattle.kp_types.specs.Setting.{Pick, Setting}
use Rattle.kp_types.specs.declared.decision.ChosenBy.TheVariants.{Affinity}
use Rattle.kp_types.specs.declared.walk.Ending.TheVariants as ending
use Rattle.kp_choice_defs.specs.Draws.{selected_index}
use Rattle.kp_choice_defs.specs.Recent.{RecentParts}
use Rattle.kp_choice_defs.specs.Settings.{pick_by_draws}
use Rattle.kp_object_defs.specs.Desired.{is_empty}
use Rattle.kp_object_defs.specs.PortInfo.{PortInfo}
use Rattle.kp_door_defs.specs.Choice.{Chosen, Look, chosen_endpoint, drawn_as, drawn_at, found_or, recent_name}
use Rattle.kp_table_defs.specs.Layout.{affinity_rules, choice_rules, endpoint_chain}
use Rattle.kp_table_defs.specs.Matching.{WalkState, Surroundings, with_lists}
use Rattle.kp_table_defs.specs.Walk.{Outcome, and_then, rules_outcome}
use Rattle.kp_table_defs.specs.Walk.Outcome.{Ended}
use Rattle.kp_walk_laws.proofs.Outcomes.{ended_last}
use Rattle.kp_walk_laws.proofs.EndpointChains.{marked_if, marked_source, marked_used, marked_lists, seen_if, sent_by}
use Rattle.kp_walk_laws.proofs.ChoiceRules.{used_after, outcome_at, with_used, choice_outcome}
use Rattle.kp_walk_laws.proofs.AffinityRules.{affinity_outcome, at_look, choice_is, found_at, lists_with, look_under, remembered_under}
use Rattle.kp_walk_laws.proofs.Arrivals.{chosen_outcome, used_by}
use Rattle.kp_walk_laws.proofs.Translations.{selected_some}

module _ (setting : Setting) (i : PortInfo) (e : Surroundings) where
  -- the mark of a list's chain, that of an endpoint's, and the source in a recent list
  same_state : (affinity : Option ℕ) (name : List ℕ) (own marked : Bool) (s : WalkState) (u : ℕ)
      (lists : RecentParts)
      → seen_if e affinity name (marked_if own
      (with_used (with_lists (marked_if marked s) lists) u))
      ≡ marked_if (own || marked)
      (record s { used = u; lists = lists_with affinity name s.source e.now lists })
  same_state None name true true s u lists = refl
  same_state None name true false s u lists = refl
  same_state None name false true s u lists = refl
  same_state None name false false s u lists = refl
  same_state (Some seconds) name true true s u lists = refl
  same_state (Some seconds) name true false s u lists = refl
  same_state (Some seconds) name false true s u lists = refl
  same_state (Some seconds) name false false s u lists = refl

  -- a choice as it is remembered
  abbrev kept : WalkState → Chosen → Chosen
  kept s c = remembered_under i.affinity (recent_name setting i.key) s.source e.now c

  -- the chain of a chosen endpoint
  sent_chosen : (marked : Bool) (n : ℕ) (s : WalkState) (c : Chosen)
      → sent_by e setting i c.endpoint
      (with_used (with_lists (marked_if marked s) c.lists) (used_by e.draws s.used n c.by))
      ≡ chosen_outcome setting i e marked n s (Some (kept s c))
  sent_chosen marked n s c =
      let name : List ℕ = endpoint_chain setting i c.endpoint in
      let u : ℕ = used_by e.draws s.used n c.by in
      ap (λ a. Ended (ending.Dnat c.endpoint) (name ∷ []) (seen_if e i.affinity name
      (marked_if (same_address c.endpoint.address a)
      (with_used (with_lists (marked_if marked s) c.lists) u)))) (marked_source marked s)
      ∙ ap (λ t. Ended (ending.Dnat c.endpoint) (name ∷ []) t)
      (same_state i.affinity name _ marked s u c.lists)

  module _ (by_draws : setting.pick ≡ pick_by_draws) (jump : List ℕ → WalkState → Outcome)
      (es : List Endpoint) (some : not (is_empty es) ≡ true)
      (jumps : (f : Endpoint) → Contains es f → (s : WalkState)
      → jump (endpoint_chain setting i f) s ≡ sent_by e setting i f s)
      (marked : Bool) (s : WalkState) (fresh : s.used ≡ 0) where
    -- the state behind the mark rules
    abbrev past_marks : WalkState
    past_marks = marked_if marked s

    drawn_outcome : (lists : RecentParts) (place : ℕ) (g : Option Endpoint) → is_some g ≡ true
        → outcome_at (sent_by e setting i) g (with_used (with_lists past_marks lists)
        (used_after e.draws past_marks.used (length es)))
        ≡ chosen_outcome setting i e marked (length es) s
        (option_map (kept s) (option_map (drawn_as place lists) g))
    drawn_outcome lists place None h = absurd (cc)
    drawn_outcome lists place (Some f) h =
        ap (λ u. sent_by e setting i f (with_used (with_lists past_marks lists)
        (used_after e.draws u (length es)))) (marked_used marked s)
        ∙ sent_chosen marked (length es) s (drawn_as place lists f)

    -- what was found by a look, or else what is drawn
    after_look : (found : Option (Endpoint × ℕ)) (lists : RecentParts)
        → and_then (found_at (sent_by e setting i) (with_lists past_marks lists) found)
        (rules_outcome e jump (choice_rules (endpoint_chain setting i) es))
        ≡ chosen_outcome setting i e marked (length es) s
        (option_map (kept s) (found_or setting e.draws es lists found))
    after_look (Some p) lists =
        ap (λ u. sent_by e setting i p.0 (with_used (with_lists past_marks lists) u))
        (marked_used marked s)
        ∙ sent_chosen marked (length es) s
        (record { endpoint = p.0; place = p.1; by = Affinity; lists = lists })
    after_look None lists =
        let place : ℕ = selected_index e.draws 0 (length es) in
        choice_outcome e jump _ _ (λ f u. ended_last _ _ _) es jumps 0 _
        (ap (λ u. min u (2 ^ 32 - 1)) (marked_used marked s ∙ fresh))
        ∙ drawn_outcome lists place _ (selected_some e.draws es some)
        ∙ ap (λ (p : Pick). chosen_outcome setting i e marked (length es) s
        (option_map (kept s) (drawn_at es (p e.draws (length es)) lists))) (sym by_draws)

    -- the rules of affinity and of draws go to the endpoint that is chosen
    pub chooses : and_then (rules_outcome e jump
        (affinity_rules (endpoint_chain setting i) i.affinity es) past_marks)
        (rules_outcome e jump (choice_rules (endpoint_chain setting i) es))
        ≡ chosen_outcome setting i e marked (length es) s
        (chosen_endpoint setting i.key i.affinity s.source e.now e.draws es s.lists)
    chooses =
        let draw : WalkState → Outcome =
        rules_outcome e jump (choice_rules (endpoint_chain setting i) es) in
        let look : Look =
        look_under i.affinity (endpoint_chain setting i) s.source e.now 0 es s.lists in
        ap (λ o. and_then o draw) (affinity_outcome e jump _
        _ (λ f u. ended_last _ _ _) i.affinity es jumps past_marks)
        ∙ ap₂ (λ source lists. and_then (at_look (sent_by e setting i) past_marks
        (look_under i.affinity (endpoint_chain setting i) source e.now 0 es lists)) draw)
        (marked_source marked s) (marked_lists marked s)
        ∙ after_look look.found look.lists
        ∙ ap (chosen_outcome setting i e marked (length es) s)
        (choice_is setting i.key i.affinity s.source e.now e.draws es s.lists)
