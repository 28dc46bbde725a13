-- The traversal of a chain as a relation, for readers (iptables(8)): rules, from the first on, take a state to
-- an outcome. There is no bound on jumps, and no rule is stuck: where a jump goes to no chain, nothing is taken.
use Rattle.std.specs.Prelude.{◌≡◌, ℕ, true, false, List, [], ◌∷◌, not, Option, Some}
use Rattle.kp_base.specs.declared.key.Endpoint.{Endpoint}
use Rattle.kp_types.specs.declared.chain.TableName.{TableName}
use Rattle.kp_types.specs.declared.chain.ChainAt.{ChainAt}
use Rattle.kp_types.specs.declared.rule.Rule.{Rule}
use Rattle.kp_types.specs.declared.rule.Target.{Target}
use Rattle.kp_types.specs.declared.rule.Target.TheVariants as target
use Rattle.kp_types.specs.declared.walk.Ending.{Ending}
use Rattle.kp_types.specs.declared.walk.Ending.TheVariants as ending
use Rattle.kp_table_defs.specs.Matching.{WalkState, Surroundings, try_all}
use Rattle.kp_table_defs.specs.Walk.{Outcome, Next, Left, Ended}

-- what a target does to a state that goes on behind its rule
pub data Changes : Target → WalkState → WalkState → Type 0 where
  Sets : (s : WalkState) → Changes target.SetMark s (record s { marked = true })
  Flips : (s : WalkState) → Changes target.FlipMark s (record s { marked = not s.marked })

-- the end that a target makes of the hook's traversal
pub data Ends : Target → Ending → Type 0 where
  Accepts : Ends target.Accept ending.Accept
  Drops : Ends target.Drop ending.Drop
  Rejects : Ends target.Reject ending.Reject
  Translates : (endpoint : Endpoint) → Ends (target.Dnat endpoint) (ending.Dnat endpoint)
  Masquerades : Ends target.Masquerade ending.Masquerade

-- a chain comes back to the rule behind its jump: at its last rule, or by a return
pub data ComesBack : Outcome → WalkState → Type 0 where
  AtLast : (s : WalkState) → ComesBack (Next s) s
  ByReturn : (s : WalkState) → ComesBack (Left s) s

-- Rules take a state to an outcome. The matches of each rule are tried in the state that it is met in; where one
-- fails, the next rule is met in the state after the trying.
pub data Takes (e : Surroundings) (at : ChainAt → Option (List Rule)) (table : TableName) : List Rule → WalkState → Outcome → Type 0 where
  Over : (s : WalkState) → Takes e at table [] s (Next s)
  Misses : (r : Rule) (rs : List Rule) (s : WalkState) (o : Outcome)
      → (try_all e r.matches.items s).holds ≡ false
      → Takes e at table rs (try_all e r.matches.items s).state o → Takes e at table (r ∷ rs) s o
  Marks : (r : Rule) (rs : List Rule) (s t : WalkState) (o : Outcome)
      → (try_all e r.matches.items s).holds ≡ true
      → Changes r.target (try_all e r.matches.items s).state t
      → Takes e at table rs t o → Takes e at table (r ∷ rs) s o
  Returns : (r : Rule) (rs : List Rule) (s : WalkState)
      → (try_all e r.matches.items s).holds ≡ true
      → r.target ≡ target.Return → Takes e at table (r ∷ rs) s (Left (try_all e r.matches.items s).state)
  Stops : (r : Rule) (rs : List Rule) (s : WalkState) (end : Ending)
      → (try_all e r.matches.items s).holds ≡ true
      → Ends r.target end → Takes e at table (r ∷ rs) s (Ended end [] (try_all e r.matches.items s).state)
  JumpsAndComesBack : (r : Rule) (rs inner : List Rule) (chain : List ℕ) (s t : WalkState) (back o : Outcome)
      → (try_all e r.matches.items s).holds ≡ true
      → r.target ≡ target.Jump chain → at (record { table = table; chain = chain }) ≡ Some inner
      → Takes e at table inner (try_all e r.matches.items s).state back → ComesBack back t
      → Takes e at table rs t o → Takes e at table (r ∷ rs) s o
  JumpsAndStops : (r : Rule) (rs inner : List Rule) (chain : List ℕ) (s t : WalkState) (end : Ending) (path : List (List ℕ))
      → (try_all e r.matches.items s).holds ≡ true
      → r.target ≡ target.Jump chain → at (record { table = table; chain = chain }) ≡ Some inner
      → Takes e at table inner (try_all e r.matches.items s).state (Ended end path t)
      → Takes e at table (r ∷ rs) s (Ended end (chain ∷ path) t)
