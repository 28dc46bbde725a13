-- Outcomes and journeys as a walk tells them that may keep no trail.
use Rattle.std.specs.Prelude.{ℕ, Bool, true, false, List, []}
use Rattle.kp_table_defs.specs.Walk as walk

-- a way, if it is kept
abbrev pub path_if : Bool → List (List ℕ) → List (List ℕ)
path_if true path = path
path_if false path = []

-- a trail, if it is kept
abbrev pub trail_if : Bool → List (List (List ℕ)) → List (List (List ℕ))
trail_if true trail = trail
trail_if false trail = []

-- an outcome, with its way if it is kept
abbrev pub shorn : Bool → walk.Outcome → walk.Outcome
shorn keeps (walk.Next s) = walk.Next s
shorn keeps (walk.Left s) = walk.Left s
shorn keeps (walk.Ended end path s) = walk.Ended end (path_if keeps path) s
shorn keeps walk.Stuck = walk.Stuck

-- a journey, with its trail if it is kept
abbrev pub told : Bool → walk.Journey → walk.Journey
told keeps j = record j { trail = trail_if keeps j.trail }
