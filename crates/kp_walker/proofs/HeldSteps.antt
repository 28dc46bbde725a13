-- The search for the first rule whose matches hold, one step at a time.
use Rattle.std.proofs.Common.{◌≡◌, ℕ, ◌+◌, ◌<◌, true, false, List, length, Option, Some, None, slice_get, refl, sym, ap, subst, ◌∙◌, inl, inr, ◌⊎◌}
use Rattle.std.proofs.lemmas.List.{at_drop_more}
use Rattle.kp_types.specs.declared.rule.Rule.{Rule}
use Rattle.kp_choice_defs.specs.Recent.{RecentParts}
use Rattle.kp_table_defs.specs.Matching.{WalkState, Surroundings, Tried, try_all, tried_as}
use Rattle.kp_table_defs.specs.Walk as walk
use Rattle.kp_table_defs.specs.Walk.{Outcome, and_then, matched_outcome, target_outcome, rule_outcome, rules_outcome}
use Rattle.kp_rules.specs.Destinations.{next_for}
use Rattle.kp_rules.specs.Skipped.{destination_in}
use Rattle.kp_rules.specs.declared.destination.Destination.{Destination}
use Rattle.kp_rules.proofs.Skipping.{passed_over}
use Rattle.kp_walker.specs.Flow.{jump_of, sets_of}
use Rattle.kp_walker.specs.Held.{FindsHeld, Passes, Meets, outcome_at, sets_at}
use Rattle.kp_walker.specs.Sets.{OnHeld, OnNext, MatchesSet, RuleSets, RulesSet, TargetSets}
use Rattle.kp_walker.specs.Surroundings.{surroundings_of}
use Rattle.kp_walker.specs.declared.hook.Hook.{Hook}
use Rattle.kp_walker.specs.declared.next.NextRule.{NextRule}
use Rattle.kp_walker.proofs.SkippedSets.{set_further}
use Rattle.kp_walker.proofs.Steps.{at_place, none_left}

-- what a search found
pub found_held : {F : Type 0} (h : Hook F) (draws : ℕ → ℕ) (depth : ℕ) (rules : List Rule) (from : ℕ) (s t : WalkState) (found : Option NextRule) (next : NextRule)
    → found ≡ Some next → FindsHeld h draws depth rules from s t found → Meets h draws depth rules from next.place next.rule.now s t
found_held h draws depth rules from s t found next is finds = subst (FindsHeld h draws depth rules from s t) is finds

-- or that it found none
pub found_none : {F : Type 0} (h : Hook F) (draws : ℕ → ℕ) (depth : ℕ) (rules : List Rule) (from : ℕ) (s t : WalkState) (found : Option NextRule)
    → found ≡ None → FindsHeld h draws depth rules from s t found → outcome_at h draws depth rules from s ≡ walk.Next t
found_none h draws depth rules from s t found is finds = subst (FindsHeld h draws depth rules from s t) is finds

module _ {F : Type 0} (h : Hook F) (draws : ℕ → ℕ) (depth : ℕ) (rules : List Rule) where
  abbrev e : Surroundings
  e = surroundings_of h.around.now draws

  abbrev jump : List ℕ → WalkState → Outcome
  jump = jump_of h draws depth

  abbrev to_set : List ℕ → WalkState → RecentParts → Type 0
  to_set = sets_of h draws depth

  -- ---- one step after another

  -- the rules from a place on do what they do
  pub passes_none : (from : ℕ) (s : WalkState) → Passes h draws depth rules from from s s
  passes_none from s = record { same = refl; sets = λ left set. set }

  pub passes_on : (from place next : ℕ) (s t u : WalkState)
      → Passes h draws depth rules from place s t → Passes h draws depth rules place next t u
      → Passes h draws depth rules from next s u
  passes_on from place next s t u first second = record {
    same = second.same ∙ first.same;
    sets = λ left set. first.sets left (second.sets left set);
  }

  pub meets_on : (from place next : ℕ) (r : Rule) (s t u : WalkState)
      → Passes h draws depth rules from place s t → Meets h draws depth rules place next r t u
      → Meets h draws depth rules from next r s u
  meets_on from place next r s t u first second = record {
    same = second.same ∙ first.same;
    sets = λ left set. first.sets left (second.sets left set);
  }

  -- ---- to the next rule that may match the packet

  -- the rules before it are passed over
  pub passes_to : (to : Destination) (from place after next : ℕ) (s t u : WalkState)
      → to ≡ destination_in e u → next_for to rules after ≡ Some next
      → Passes h draws depth rules from place s t → Passes h draws depth rules place after t u
      → Passes h draws depth rules from next s u
  passes_to to from place after next s t u heading is first second =
      let found = ap (λ d. next_for d rules after) (sym heading) ∙ is in
      passes_on from after next s u u (passes_on from place after s t u first second) (record {
        same = sym (passed_over e u jump rules after next found);
        sets = λ left set. set_further e u jump to_set left rules after next found set;
      })

  -- there is none
  pub none_held : (to : Destination) (from place : ℕ) (s t : WalkState)
      → to ≡ destination_in e t → next_for to rules place ≡ None
      → Passes h draws depth rules from place s t
      → outcome_at h draws depth rules from s ≡ walk.Next t
  none_held to from place s t heading none run =
      sym run.same ∙ none_left e jump t to rules place heading none

  -- ---- the rule at a place

  module _ (place : ℕ) (r : Rule) (within : place < length rules)
      (here : slice_get rules place ≡ Some r) (s : WalkState) where
    -- what comes of it, once its matches were tried
    tried_here : (tried : Tried) → tried ≡ try_all e r.matches.items s
        → and_then (matched_outcome jump r.target tried) (outcome_at h draws depth rules (place + 1))
        ≡ outcome_at h draws depth rules place s
    tried_here tried is =
        ap (λ z. and_then (matched_outcome jump r.target z) (outcome_at h draws depth rules (place + 1))) is
        ∙ ap (λ x. and_then (rule_outcome e jump x s) (outcome_at h draws depth rules (place + 1)))
        (at_place rules place r here)
        ∙ sym (at_drop_more (λ rs. rules_outcome e jump rs s) rules place r within)

    -- what it and the rules after it come to
    sets_here : (left : RecentParts)
        → RuleSets e to_set r s left
        ⊎ OnNext (rule_outcome e jump r s) (λ t. sets_at h draws depth rules (place + 1) t left)
        → sets_at h draws depth rules place s left
    sets_here left set =
        subst (λ xs. RulesSet e jump to_set xs s left) (sym (at_drop_more (λ xs. xs) rules place r within))
        (subst (λ x. RuleSets e to_set x s left
        ⊎ OnNext (rule_outcome e jump x s) (λ t. sets_at h draws depth rules (place + 1) t left))
        (at_place rules place r here) set)

    sets_after : (tried : Tried) (left : RecentParts) → tried ≡ try_all e r.matches.items s
        → OnNext (matched_outcome jump r.target tried) (λ u. sets_at h draws depth rules (place + 1) u left)
        → sets_at h draws depth rules place s left
    sets_after tried left is set = sets_here left (inr
        (subst (λ z. OnNext (matched_outcome jump r.target z)
        (λ u. sets_at h draws depth rules (place + 1) u left)) is set))

    -- its matches don't hold
    pub rule_fails : (u : WalkState) → tried_as u false ≡ try_all e r.matches.items s
        → Passes h draws depth rules place (place + 1) s u
    rule_fails u is = record {
      same = tried_here (tried_as u false) is;
      sets = λ left set. sets_after (tried_as u false) left is set;
    }

    -- they hold
    pub rule_holds : (u : WalkState) → tried_as u true ≡ try_all e r.matches.items s
        → Meets h draws depth rules place place r s u
    rule_holds u is = record {
      same = tried_here (tried_as u true) is;
      sets = by u is;
    }
      where
        by : (u : WalkState) → tried_as u true ≡ try_all e r.matches.items s
            → (left : RecentParts) → TargetSets to_set r.target u left
            ⊎ OnNext (target_outcome jump r.target u) (λ v. sets_at h draws depth rules (place + 1) v left)
            → sets_at h draws depth rules place s left
        by u is left (inl set) = sets_here left (inl
            (inr (subst (λ (z : Tried). OnHeld z.holds (TargetSets to_set r.target z.state left)) is set)))
        by u is left (inr set) = sets_after (tried_as u true) left is set

    -- they come to a set that needs memory
    pub rule_refused : (left : RecentParts) → MatchesSet e r.matches.items s left
        → sets_at h draws depth rules place s left
    rule_refused left set = sets_here left (inl (inl set))
