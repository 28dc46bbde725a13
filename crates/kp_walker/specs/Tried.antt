-- What trying rules comes to whose only match is a draw or a look at a recent list: of one of them, and of a run of
-- them from a place of a chain on.
use Rattle.std.specs.Prelude.{◌≡◌, ℕ, ◌≤◌, Bool, List, Option, Some, None, slice_get}
use Rattle.kp_types.specs.declared.rule.Rule.{Rule}
use Rattle.kp_table_defs.specs.Matching.{WalkState, Surroundings, try_all, tried_as}
use Rattle.kp_walker.specs.Held.{Meets, Passes, StandsAt}
use Rattle.kp_walker.specs.declared.tried.TriedRun.{TriedRun}
use Rattle.kp_walker.specs.declared.tried.TriedRun.TheVariants.{Matched, Over}
use Rattle.kp_walker.specs.declared.hook.Hook.{Hook}

-- the rule at a place was tried, and whether its matches hold; one that wasn't tried changes nothing
abbrev pub TriedAt : Surroundings → List Rule → ℕ → WalkState → WalkState → Option Bool → Type 0
TriedAt e rules place s t None = t ≡ s
TriedAt e rules place s t (Some holds) =
    (r : Rule) → slice_get rules place ≡ Some r → tried_as t holds ≡ try_all e r.matches.items s

-- the rules from a place on do what those from another place do, or what the rule does whose match holds
abbrev pub RunTriedTo : {F : Type 0} → Hook F → (ℕ → ℕ) → ℕ → List Rule → ℕ → WalkState → WalkState → TriedRun → Type 0
RunTriedTo h draws depth rules from s t (Over place) = Passes h draws depth rules from place s t
RunTriedTo h draws depth rules from s t (Matched next) = Meets h draws depth rules from next.place next.rule.now s t

-- where that place is
abbrev pub RunEndsAt : List Rule → ℕ → TriedRun → Type 0
RunEndsAt rules from (Over place) = from ≤ place
RunEndsAt rules from (Matched next) = StandsAt rules from next.place
