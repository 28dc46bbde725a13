-- A rule whose only match is a draw or a look, tried at its place.
use Rattle.std.proofs.Common.{◌≡◌, ◌<◌, ◌≤◌, ◌+◌, ℕ, zero, suc, true, false, nat_lt, Bool, List, [], ◌∷◌, length, map, Option, Some, None, option_map, slice_get, refl, sym, ap, subst, ◌∙◌, arith}
use Rattle.std.specs.Option.{option_and_then}
use Rattle.std.proofs.lemmas.Option.{slice_get-map}
use Rattle.kp_types.specs.declared.rule.Rule.{Rule}
use Rattle.kp_choice_defs.specs.Draws.{draw_at}
use Rattle.kp_table_defs.specs.Matching.{WalkState, Surroundings, tried_as, with_draw}
use Rattle.kp_rules.specs.Limits.{limit_of}
use Rattle.kp_walker.specs.Held.{Meets, Passes, StandsAt}
use Rattle.kp_walker.specs.Surroundings.{surroundings_of}
use Rattle.kp_walker.specs.Tried.{TriedAt, RunTriedTo, RunEndsAt}
use Rattle.kp_walker.specs.declared.tried.TriedRun.{TriedRun}
use Rattle.kp_walker.specs.declared.tried.TriedRun.TheVariants.{Matched, Over}
use Rattle.kp_walker.specs.declared.hook.Hook.{Hook}
use Rattle.kp_walker.specs.declared.next.NextRule.{NextRule}
use Rattle.kp_walker.proofs.HeldSteps.{passes_on, meets_on, rule_fails, rule_holds}
use Rattle.kp_walker.proofs.ReadyMatches.{tried_by_limit}

-- ---- one rule

-- a place of a list has a rule
rule_there : (rules : List Rule) (place : ℕ) → place < length rules → (r : Rule) × (slice_get rules place ≡ Some r)
rule_there [] place within = absurd (omega (arith, within))
rule_there (r ∷ rules) zero within = (r, refl)
rule_there (r ∷ rules) (suc place) within = rule_there rules place (omega (arith, within))

-- one with a limit was tried by it
pub limit_tried : (e : Surroundings) (rules : List Rule) (place limit : ℕ) (s t : WalkState) (b : Bool)
    → (limits : List (Option ℕ)) (found : Option ℕ) → limits ≡ map limit_of rules
    → found ≡ option_and_then (λ o. o) (slice_get limits place) → found ≡ Some limit
    → tried_as t b ≡ tried_as (with_draw s) (nat_lt (draw_at e.draws s.used) limit)
    → TriedAt e rules place s t (Some b)
limit_tried e rules place limit s t b limits found are at is tried r here =
    tried ∙ tried_by_limit e s limit r.matches.items
    (sym (ap (option_and_then (λ o. o))
    (ap (λ ls. slice_get ls place) are ∙ slice_get-map limit_of rules place ∙ ap (option_map limit_of) here))
    ∙ sym at ∙ is)

-- ---- a run of them

-- where it ended
pub over_on : (rules : List Rule) (from : ℕ) (run : TriedRun) (place : ℕ) → run ≡ Over place
    → RunEndsAt rules from run → from ≤ place
over_on rules from run place is at = subst (RunEndsAt rules from) is at

pub matched_on : (rules : List Rule) (from : ℕ) (run : TriedRun) (next : NextRule) → run ≡ Matched next
    → RunEndsAt rules from run → StandsAt rules from next.place
matched_on rules from run next is at = subst (RunEndsAt rules from) is at

module _ {F : Type 0} (h : Hook F) (draws : ℕ → ℕ) (depth : ℕ) (rules : List Rule) (from : ℕ) (s t : WalkState) where
  -- how it ended
  pub run_over : (run : TriedRun) (place : ℕ) → run ≡ Over place
      → RunTriedTo h draws depth rules from s t run → Passes h draws depth rules from place s t
  run_over run place is to = subst (RunTriedTo h draws depth rules from s t) is to

  pub run_matched : (run : TriedRun) (next : NextRule) → run ≡ Matched next
      → RunTriedTo h draws depth rules from s t run
      → Meets h draws depth rules from next.place next.rule.now s t
  run_matched run next is to = subst (RunTriedTo h draws depth rules from s t) is to

  -- its next rule was tried
  module _ (place : ℕ) (run : Passes h draws depth rules from place s t) (u : WalkState) (tried : Option Bool)
      (to : TriedAt (surroundings_of h.around.now draws) rules place t u tried) where
    -- it isn't one of the run
    pub run_ends : tried ≡ None → Passes h draws depth rules from place s u
    run_ends none =
        let same : u ≡ t = subst (TriedAt (surroundings_of h.around.now draws) rules place t u) none to in
        subst (Passes h draws depth rules from place s) (sym same) run

    tried_so : (holds : Bool) → tried ≡ Some holds → TriedAt (surroundings_of h.around.now draws) rules place t u (Some holds)
    tried_so holds some = subst (TriedAt (surroundings_of h.around.now draws) rules place t u) some to

    pub run_fails : (holds : Bool) → tried ≡ Some holds → holds ≡ false → place < length rules
        → Passes h draws depth rules from (place + 1) s u
    run_fails holds some fails within =
        let there = rule_there rules place within in
        passes_on h draws depth rules from place (place + 1) s t u run
        (rule_fails h draws depth rules place there.0 within there.1 t u
        (ap (tried_as u) (sym fails) ∙ tried_so holds some there.0 there.1))

    pub run_holds : (holds : Bool) → tried ≡ Some holds → holds ≡ true → (r : Rule) → place < length rules → slice_get rules place ≡ Some r
        → Meets h draws depth rules from place r s u
    run_holds holds some is r within here =
        meets_on h draws depth rules from place place r s t u run
        (rule_holds h draws depth rules place r within here t u
        (ap (tried_as u) (sym is) ∙ tried_so holds some r here))
