-- What the rules of session affinity do: they go to the first endpoint whose recent list has the
-- source, and drop what is too old from each list that they look at.
use Rattle.std.proofs.Common.{◌≡◌, ℕ, Bool, true, false, cond, List, [], ◌∷◌, Contains, Option, Some, None, option_map, refl, sym, ap, ◌∙◌}
use Rattle.kp_lemmas.proofs.Members.{first_in, later_in}
use Rattle.kp_base.specs.Net.{AddressParts}
use Rattle.kp_base.specs.declared.key.Endpoint.{Endpoint}
use Rattle.kp_base.specs.declared.key.PortKey.{PortKey}
use Rattle.kp_types.specs.Setting.{Setting}
use Rattle.kp_types.specs.Rules.{rule_of}
use Rattle.kp_types.specs.declared.rule.Match.TheVariants as match
use Rattle.kp_types.specs.declared.rule.Target.TheVariants as target
use Rattle.kp_choice_defs.specs.Recent.{RecentParts, is_live, reaped, set_at}
use Rattle.kp_door_defs.specs.Choice.{Chosen, Look, chosen_endpoint, found_or_drawn, live_endpoint, recent_name, remembered}
use Rattle.kp_table_defs.specs.Layout.{affinity_rules}
use Rattle.kp_table_defs.specs.Matching.{WalkState, Surroundings, tried_as, and_also, with_lists, try_all}
use Rattle.kp_table_defs.specs.Walk.{Outcome, and_then, target_if, matched_outcome, rule_outcome, rules_outcome}
use Rattle.kp_table_defs.specs.Walk.Outcome.{Next}
use Rattle.kp_walk_laws.proofs.Outcomes.{IsLast}

-- ---- A choice, with and without affinity

-- the look under session affinity, or none
abbrev pub look_under : Option ℕ → (Endpoint → List ℕ) → AddressParts → ℕ → ℕ → List Endpoint
    → RecentParts → Look
look_under None name source now place es lists = record { found = None; lists = lists }
look_under (Some seconds) name source now place es lists =
    live_endpoint name source now seconds place es lists

-- the recent lists in which the source was set under session affinity
abbrev pub lists_with : Option ℕ → List ℕ → AddressParts → ℕ → RecentParts → RecentParts
lists_with None list source now lists = lists
lists_with (Some seconds) list source now lists = set_at lists list source now

-- a choice that is remembered under session affinity
abbrev pub remembered_under : Option ℕ → (Endpoint → List ℕ) → AddressParts → ℕ → Chosen → Chosen
remembered_under affinity name source now c =
    record c { lists = lists_with affinity (name c.endpoint) source now c.lists }

-- a choice is a look, a draw where nothing was found, and remembering
pub choice_is : (setting : Setting) (port : PortKey) (affinity : Option ℕ) (source : AddressParts)
    (now : ℕ) (draws : ℕ → ℕ) (es : List Endpoint) (lists : RecentParts)
    → option_map (remembered_under affinity (recent_name setting port) source now)
    (found_or_drawn setting draws es
    (look_under affinity (recent_name setting port) source now 0 es lists))
    ≡ chosen_endpoint setting port affinity source now draws es lists
choice_is setting port None source now draws es lists = as_it_is _
  where
    as_it_is : (c : Option Chosen)
        → option_map (remembered_under None (recent_name setting port) source now) c ≡ c
    as_it_is None = refl
    as_it_is (Some c) = refl
choice_is setting port (Some seconds) source now draws es lists = set _
  where
    set : (c : Option Chosen)
        → option_map (remembered_under (Some seconds) (recent_name setting port) source now) c
        ≡ remembered (recent_name setting port) source now c
    set None = refl
    set (Some c) = refl

-- ---- The rules

-- what happens at the endpoint that was found, if there is one
abbrev pub found_at : (Endpoint → WalkState → Outcome) → WalkState → Option (Endpoint × ℕ) → Outcome
found_at goes s None = Next s
found_at goes s (Some p) = goes p.0 s

-- what happens after a look
abbrev pub at_look : (Endpoint → WalkState → Outcome) → WalkState → Look → Outcome
at_look goes s look = found_at goes (with_lists s look.lists) look.found

module _ (e : Surroundings) (jump : List ℕ → WalkState → Outcome) (name : Endpoint → List ℕ)
    (goes : Endpoint → WalkState → Outcome)
    (last : (f : Endpoint) (s : WalkState) → IsLast (goes f s)) (seconds : ℕ) where
  -- the rule of an endpoint that was seen
  seen_by : (f : Endpoint) (s : WalkState) (b : Bool)
      → is_live s.lists (name f) s.source e.now seconds ≡ b
      → rule_outcome e jump (rule_of (match.Seen (name f) seconds ∷ []) (target.Jump (name f))) s
      ≡ target_if b jump (target.Jump (name f))
      (with_lists s (reaped s.lists (name f) s.source e.now seconds))
  seen_by f s true h =
      ap (λ b. matched_outcome jump (target.Jump (name f)) (and_also
      (tried_as (with_lists s (reaped s.lists (name f) s.source e.now seconds)) b) (try_all e [])))
      h
  seen_by f s false h =
      ap (λ b. matched_outcome jump (target.Jump (name f)) (and_also
      (tried_as (with_lists s (reaped s.lists (name f) s.source e.now seconds)) b) (try_all e [])))
      h

  -- a rule of affinity before others
  seen_before : (f : Endpoint) (place : ℕ) (s t : WalkState) (rest : WalkState → Outcome)
      (more : Look) → t ≡ with_lists s (reaped s.lists (name f) s.source e.now seconds)
      → jump (name f) t ≡ goes f t → rest t ≡ at_look goes s more → (b : Bool)
      → is_live s.lists (name f) s.source e.now seconds ≡ b
      → and_then (rule_outcome e jump
      (rule_of (match.Seen (name f) seconds ∷ []) (target.Jump (name f))) s) rest
      ≡ at_look goes s (cond b (record {
        found = Some (f, place);
        lists = reaped s.lists (name f) s.source e.now seconds;
      }) more)
  seen_before f place s t rest more is goes_on behind true h =
      ap (λ o. and_then o rest) (seen_by f s true h)
      ∙ ap (λ u. and_then (jump (name f) u) rest) (sym is)
      ∙ ap (λ o. and_then o rest) goes_on ∙ (last f t).stays rest ∙ ap (goes f) is
  seen_before f place s t rest more is goes_on behind false h =
      ap (λ o. and_then o rest) (seen_by f s false h) ∙ ap rest (sym is) ∙ behind

  seen_outcome : (es : List Endpoint)
      → ((f : Endpoint) → Contains es f → (s : WalkState) → jump (name f) s ≡ goes f s)
      → (place : ℕ) (s : WalkState)
      → rules_outcome e jump (affinity_rules name (Some seconds) es) s
      ≡ at_look goes s (live_endpoint name s.source e.now seconds place es s.lists)
  seen_outcome [] jumps place s = refl
  seen_outcome (f ∷ es) jumps place s =
      let t : WalkState = with_lists s (reaped s.lists (name f) s.source e.now seconds) in
      seen_before f place s t _ _ refl (jumps f (first_in f es) t)
      (seen_outcome es (λ g c. jumps g (later_in g f es c)) _ t) _ refl

module _ (e : Surroundings) (jump : List ℕ → WalkState → Outcome) (name : Endpoint → List ℕ)
    (goes : Endpoint → WalkState → Outcome)
    (last : (f : Endpoint) (s : WalkState) → IsLast (goes f s)) where
  -- the rules of affinity go to the endpoint that a look finds
  pub affinity_outcome : (affinity : Option ℕ) (es : List Endpoint)
      → ((f : Endpoint) → Contains es f → (s : WalkState) → jump (name f) s ≡ goes f s)
      → (s : WalkState) → rules_outcome e jump (affinity_rules name affinity es) s
      ≡ at_look goes s (look_under affinity name s.source e.now 0 es s.lists)
  affinity_outcome None es jumps s = refl
  affinity_outcome (Some seconds) es jumps s =
      seen_outcome e jump name goes last seconds es jumps 0 s
