-- What an answer tells.
use Rattle.std.specs.Prelude.{ℕ, List, map}
use Rattle.kp_types.specs.declared.verdict.Answer.{Answer}
use Rattle.kp_types.specs.declared.verdict.Trail.{Trail}
use Rattle.kp_choice_defs.specs.Recent.{RecentParts}
use Rattle.kp_table_defs.specs.Walk.{Walked}

-- the names on each way of a trail
abbrev pub names_of : Trail → List (List (List ℕ))
names_of t = map (λ p. p.chains.items) t.passes.items

-- an answer, with the recent lists that stand when it is given
abbrev pub answered : Answer → RecentParts → Walked
answered a lists = record { verdict = a.verdict; trail = names_of a.trail; lists = lists }
