-- What a walk does from a place of a chain on, where the rules that can't match its packet are passed over.
use Rattle.std.specs.Prelude.{◌≡◌, ℕ, List, drop, Option, Some, None}
use Rattle.kp_types.specs.declared.rule.Rule.{Rule}
use Rattle.kp_table_defs.specs.Matching.{WalkState, Surroundings}
use Rattle.kp_table_defs.specs.Walk.{Outcome, Next, rules_outcome}
use Rattle.kp_rules.specs.Destinations.{next_for}
use Rattle.kp_rules.specs.declared.destination.Destination.{Destination}

-- where a packet goes by now
abbrev pub destination_in : Surroundings → WalkState → Destination
destination_in e s = record { address = s.target; proto = e.proto; port = s.port }

-- the outcome of the rules from a place on, and behind the chain where there is none
abbrev pub outcome_from : Surroundings → (List ℕ → WalkState → Outcome) → List Rule → WalkState → Option ℕ → Outcome
outcome_from e jump rules s None = Next s
outcome_from e jump rules s (Some place) = rules_outcome e jump (drop place rules) s

-- the rules from a place on do what those from the next that may match do
abbrev pub SkippedRulesDoNothing : Type 0
SkippedRulesDoNothing =
    (e : Surroundings) (s : WalkState) (jump : List ℕ → WalkState → Outcome) (rules : List Rule) (from : ℕ)
    → rules_outcome e jump (drop from rules) s ≡ outcome_from e jump rules s (next_for (destination_in e s) rules from)
