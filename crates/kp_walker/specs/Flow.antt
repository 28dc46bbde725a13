-- What the flow of a walk means, and what its way has by then.
use Rattle.std.specs.Prelude.{◌≡◌, ℕ, ◌≤◌, List, [], length}
use Rattle.kp_choice_defs.specs.Recent.{RecentParts}
use Rattle.kp_table_defs.specs.Matching.{WalkState}
use Rattle.kp_table_defs.specs.Walk as walk
use Rattle.kp_walker.specs.Progress.{state_of}
use Rattle.kp_walker.specs.Sets.{ChainSets}
use Rattle.kp_walker.specs.Surroundings.{surroundings_of, chains_of}
use Rattle.kp_walker.specs.declared.header.Header.{Header}
use Rattle.kp_walker.specs.declared.hook.Hook.{Hook}
use Rattle.kp_walker.specs.declared.flow.Flow.{Flow}
use Rattle.kp_walker.specs.declared.progress.Progress.{Progress}
use Rattle.kp_walker.specs.declared.flow.Flow.TheVariants.{Next, Left, Ended, Stuck}

-- the outcome that a flow stands for with the progress by then, where a traversal was ended on the way through these
-- chains
abbrev pub outcome_of : Header → Flow → Progress → List (List ℕ) → RecentParts → walk.Outcome
outcome_of header Next p path lists = walk.Next (state_of header p lists)
outcome_of header Left p path lists = walk.Left (state_of header p lists)
outcome_of header Ended p path lists = walk.Ended p.ending path (state_of header p lists)
outcome_of header Stuck p path lists = walk.Stuck

-- the way has chains only where a traversal was ended, and at most so many
abbrev pub IsThrough : Flow → ℕ → List (List ℕ) → Type 0
IsThrough Next n path = path ≡ []
IsThrough Left n path = path ≡ []
IsThrough Ended n path = length path ≤ n
IsThrough Stuck n path = path ≡ []

-- what a jump does, with at most so many chains on the way
abbrev pub jump_of : {F : Type 0} → Hook F → (ℕ → ℕ) → ℕ → List ℕ → WalkState → walk.Outcome
jump_of h draws depth =
    walk.chain_outcome (surroundings_of h.around.now draws) (chains_of h.around.now) h.table depth

-- what of a jump comes to a set that needs memory
abbrev pub sets_of : {F : Type 0} → Hook F → (ℕ → ℕ) → ℕ → List ℕ → WalkState → RecentParts → Type 0
sets_of h draws depth =
    ChainSets (surroundings_of h.around.now draws) (chains_of h.around.now) h.table depth
