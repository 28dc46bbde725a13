-- What the rules do that choose among endpoints: they go where the draws say.
use Rattle.std.proofs.Common.{◌≡◌, ℕ, suc, zero, ◌+◌, ◌-◌, ◌^◌, min, Bool, true, false, List, [], ◌∷◌, length, Contains, slice_get, Option, Some, None, if◌then◌else◌, refl, ap, ◌∙◌, arith}
use Rattle.kp_lemmas.proofs.Members.{first_in, later_in}
use Rattle.kp_base.specs.declared.key.Endpoint.{Endpoint}
use Rattle.kp_types.specs.declared.rule.Target.TheVariants as target
use Rattle.kp_choice_defs.specs.Draws.{draw_at, draw_matches, probability_of, selected_index}
use Rattle.kp_table_defs.specs.Matching.{WalkState, Surroundings, tried_as, with_draw, and_also, try_all}
use Rattle.kp_table_defs.specs.Layout.{chance, choice_rules}
use Rattle.kp_table_defs.specs.Walk.{Outcome, and_then, target_if, matched_outcome, rule_outcome, rules_outcome}
use Rattle.kp_table_defs.specs.Walk.Outcome.{Next}
use Rattle.kp_walk_laws.proofs.Outcomes.{IsLast, and_then_next}

-- how many draws were used once one of n was chosen, where this many were used before
abbrev pub used_after : (ℕ → ℕ) → ℕ → ℕ → ℕ
used_after draws used zero = used
used_after draws used (suc zero) = used
used_after draws used (suc (suc n)) =
    if draw_matches (probability_of (suc (suc n))) (draw_at draws used)
    then min (used + 1) (2 ^ 32 - 1) else used_after draws (min (used + 1) (2 ^ 32 - 1)) (suc n)

-- what happens at the endpoint that was picked, if there is one
abbrev pub outcome_at : (Endpoint → WalkState → Outcome) → Option Endpoint → WalkState → Outcome
outcome_at goes None s = Next s
outcome_at goes (Some e) s = goes e s

-- a state with this number of draws used
abbrev pub with_used : WalkState → ℕ → WalkState
with_used s n = record s { used = n }

-- the next draw's place, where places stand still at m
next_place : (u k m : ℕ) → min u m ≡ min k m → min (min (u + 1) m) m ≡ min (suc k) m
next_place u k m h = omega arith

module _ (e : Surroundings) (jump : List ℕ → WalkState → Outcome) (name : Endpoint → List ℕ)
    (goes : Endpoint → WalkState → Outcome)
    (last : (f : Endpoint) (s : WalkState) → IsLast (goes f s)) where
  -- the rule of a probability
  chance_by : (f : Endpoint) (n : ℕ) (s : WalkState) (b : Bool)
      → draw_matches (probability_of n) (draw_at e.draws s.used) ≡ b
      → rule_outcome e jump (chance n (target.Jump (name f))) s
      ≡ target_if b jump (target.Jump (name f)) (with_draw s)
  chance_by f n s true h =
      ap (λ b. matched_outcome jump (target.Jump (name f))
      (and_also (tried_as (with_draw s) b) (try_all e []))) h
  chance_by f n s false h =
      ap (λ b. matched_outcome jump (target.Jump (name f))
      (and_also (tried_as (with_draw s) b) (try_all e []))) h

  -- a rule of a probability before others
  chance_before : (f : Endpoint) (fs : List Endpoint) (n x y : ℕ) (s : WalkState)
      (rest : WalkState → Outcome) → jump (name f) (with_draw s) ≡ goes f (with_draw s)
      → rest (with_draw s) ≡ outcome_at goes (slice_get fs x) (with_used s y)
      → (b : Bool) → draw_matches (probability_of n) (draw_at e.draws s.used) ≡ b
      → and_then (rule_outcome e jump (chance n (target.Jump (name f))) s) rest
      ≡ outcome_at goes (slice_get (f ∷ fs) (if b then 0 else suc x))
      (with_used s (if b then min (s.used + 1) (2 ^ 32 - 1) else y))
  chance_before f fs n x y s rest goes_on behind true h =
      ap (λ o. and_then o rest) (chance_by f n s true h ∙ goes_on)
      ∙ (last f (with_draw s)).stays rest
  chance_before f fs n x y s rest goes_on behind false h =
      ap (λ o. and_then o rest) (chance_by f n s false h) ∙ behind

  -- the rules go to the endpoint at the place that the draws select
  pub choice_outcome : (es : List Endpoint)
      → ((f : Endpoint) → Contains es f → (s : WalkState) → jump (name f) s ≡ goes f s)
      → (k : ℕ) (s : WalkState) → min s.used (2 ^ 32 - 1) ≡ min k (2 ^ 32 - 1)
      → rules_outcome e jump (choice_rules name es) s
      ≡ outcome_at goes (slice_get es (selected_index e.draws k (length es)))
      (with_used s (used_after e.draws s.used (length es)))
  choice_outcome [] jumps k s place = refl
  choice_outcome (f ∷ []) jumps k s place = and_then_next _ ∙ jumps f (first_in f []) s
  choice_outcome (f ∷ g ∷ es) jumps k s place =
      let n : ℕ = suc (suc (length es)) in
      let u : ℕ = min (s.used + 1) (2 ^ 32 - 1) in
      let x : ℕ = selected_index e.draws (suc k) (suc (length es)) in
      let y : ℕ = used_after e.draws u (suc (length es)) in
      let behind = choice_outcome (g ∷ es) (λ h c. jumps h (later_in h f (g ∷ es) c)) (suc k)
      (with_draw s) (next_place s.used k _ place) in
      chance_before f (g ∷ es) n x y s _ (jumps f (first_in f (g ∷ es)) (with_draw s)) behind _ refl
      ∙ ap (λ p. outcome_at goes (slice_get (f ∷ g ∷ es)
      (if draw_matches (probability_of n) (e.draws p) then 0 else suc x))
      (with_used s (if draw_matches (probability_of n) (draw_at e.draws s.used) then u else y)))
      place
