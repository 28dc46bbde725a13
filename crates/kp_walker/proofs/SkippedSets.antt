-- Where a walk comes to a set, rules that can't match its packet are passed over.
use Rattle.std.proofs.Common.{◌≡◌, ℕ, zero, suc, Bool, true, false, cond, List, [], ◌∷◌, drop, Option, Some, None, option_map, refl, sym, ap, subst, inr}
use Rattle.kp_types.specs.declared.rule.Rule.{Rule}
use Rattle.kp_choice_defs.specs.Recent.{RecentParts}
use Rattle.kp_table_defs.specs.Matching.{WalkState, Surroundings}
use Rattle.kp_table_defs.specs.Walk.{Outcome, matched_outcome}
use Rattle.kp_rules.specs.Destinations.{concerns, next_for}
use Rattle.kp_rules.specs.Skipped.{destination_in}
use Rattle.kp_rules.proofs.Skipping.{asked_elsewhere}
use Rattle.kp_walker.specs.Sets.{OnNext, RulesSet}

module _ (e : Surroundings) (s : WalkState) (jump : List ℕ → WalkState → Outcome) (sets : List ℕ → WalkState → RecentParts → Type 0) (left : RecentParts) where
  -- what a place means for the rules from another on
  abbrev SetFrom : List Rule → Option ℕ → Type 0
  SetFrom rules None = ⊥
  SetFrom rules (Some q) = RulesSet e jump sets (drop q rules) s left

  -- behind a rule that doesn't concern the packet
  behind : (r : Rule) (rules : List Rule) → concerns (destination_in e s) r ≡ false → RulesSet e jump sets rules s left → RulesSet e jump sets (r ∷ rules) s left
  behind r rules other set =
      inr (subst (λ o. OnNext o (λ t. RulesSet e jump sets rules t left)) (sym (ap (matched_outcome jump r.target) (asked_elsewhere e s r.matches.items other))) set)

  -- one rule more before them
  shifted : (r : Rule) (rules : List Rule) (o : Option ℕ) → SetFrom (r ∷ rules) (option_map suc o) → SetFrom rules o
  shifted r rules None set = set
  shifted r rules (Some q) set = set

  -- at the first of some rules, where the others are known
  first : (r : Rule) (rules : List Rule) (b : Bool) → concerns (destination_in e s) r ≡ b
      → (SetFrom rules (next_for (destination_in e s) rules zero) → RulesSet e jump sets rules s left)
      → SetFrom (r ∷ rules) (cond b (Some 0) (option_map suc (next_for (destination_in e s) rules zero))) → RulesSet e jump sets (r ∷ rules) s left
  first r rules true is others set = set
  first r rules false is others set = behind r rules is (others (shifted r rules (next_for (destination_in e s) rules zero) set))

  passed : (rules : List Rule) (from : ℕ) → SetFrom rules (next_for (destination_in e s) rules from) → RulesSet e jump sets (drop from rules) s left
  passed [] from set = absurd set
  passed (r ∷ rules) zero set = first r rules (concerns (destination_in e s) r) refl (passed rules zero) set
  passed (r ∷ rules) (suc from) set = passed rules from (shifted r rules (next_for (destination_in e s) rules from) set)

  -- what the next rule that concerns the packet comes to, the rules before it come to
  pub set_further : (rules : List Rule) (from q : ℕ) → next_for (destination_in e s) rules from ≡ Some q → RulesSet e jump sets (drop q rules) s left → RulesSet e jump sets (drop from rules) s left
  set_further rules from q next set = passed rules from (subst (SetFrom rules) (sym next) set)
