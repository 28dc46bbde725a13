-- The first rule from a place of a chain on whose matches hold, and what the rules from there on do by it.
use Rattle.std.specs.Prelude.{◌≡◌, ℕ, ◌+◌, ◌^◌, ◌<◌, ◌≤◌, List, drop, length, Option, Some, None, ◌⊎◌}
use Rattle.kp_types.specs.declared.rule.Rule.{Rule}
use Rattle.kp_choice_defs.specs.Recent.{RecentParts}
use Rattle.kp_table_defs.specs.Matching.{WalkState}
use Rattle.kp_table_defs.specs.Walk as walk
use Rattle.kp_table_defs.specs.Walk.{Outcome, and_then, rules_outcome, target_outcome}
use Rattle.kp_walker.specs.Flow.{jump_of, sets_of}
use Rattle.kp_walker.specs.Sets.{OnNext, RulesSet, TargetSets}
use Rattle.kp_walker.specs.Surroundings.{surroundings_of}
use Rattle.kp_walker.specs.declared.hook.Hook.{Hook}
use Rattle.kp_walker.specs.declared.next.NextRule.{NextRule}

-- what the rules from a place on do
abbrev pub outcome_at : {F : Type 0} → Hook F → (ℕ → ℕ) → ℕ → List Rule → ℕ → WalkState → Outcome
outcome_at h draws depth rules place =
    rules_outcome (surroundings_of h.around.now draws) (jump_of h draws depth) (drop place rules)

-- what of it comes to a set that needs memory
abbrev pub sets_at : {F : Type 0} → Hook F → (ℕ → ℕ) → ℕ → List Rule → ℕ → WalkState → RecentParts → Type 0
sets_at h draws depth rules place =
    RulesSet (surroundings_of h.around.now draws) (jump_of h draws depth) (sets_of h draws depth) (drop place rules)

-- the rules from a place on do in a state what those from another do in another state
pub record Passes {F : Type 0} (h : Hook F) (draws : ℕ → ℕ) (depth : ℕ) (rules : List Rule) (from place : ℕ) (s t : WalkState) : Type 0 where
  pub same : outcome_at h draws depth rules place t ≡ outcome_at h draws depth rules from s
  pub sets : (left : RecentParts) → sets_at h draws depth rules place t left → sets_at h draws depth rules from s left

-- they do what a rule's target does in another state, and then what the rules after it do
pub record Meets {F : Type 0} (h : Hook F) (draws : ℕ → ℕ) (depth : ℕ) (rules : List Rule) (from place : ℕ) (rule : Rule) (s t : WalkState) : Type 0 where
  pub same : and_then (target_outcome (jump_of h draws depth) rule.target t) (outcome_at h draws depth rules (place + 1))
      ≡ outcome_at h draws depth rules from s
  pub sets : (left : RecentParts)
      → TargetSets (sets_of h draws depth) rule.target t left
      ⊎ OnNext (target_outcome (jump_of h draws depth) rule.target t) (λ u. sets_at h draws depth rules (place + 1) u left)
      → sets_at h draws depth rules from s left

-- by the first rule whose matches hold, if there is one
abbrev pub FindsHeld : {F : Type 0} → Hook F → (ℕ → ℕ) → ℕ → List Rule → ℕ → WalkState → WalkState → Option NextRule → Type 0
FindsHeld h draws depth rules from s t None = outcome_at h draws depth rules from s ≡ walk.Next t
FindsHeld h draws depth rules from s t (Some next) = Meets h draws depth rules from next.place next.rule.now s t

-- a place of a list, from another on
pub record StandsAt (rules : List Rule) (from place : ℕ) : Type 0 where
  pub on : from ≤ place
  pub within : place < length rules
  pub fits : place + 1 < 2 ^ 64

-- where that rule stands
abbrev pub IsPlaced : List Rule → ℕ → Option NextRule → Type 0
IsPlaced rules from None = Unit {0}
IsPlaced rules from (Some next) = StandsAt rules from next.place
