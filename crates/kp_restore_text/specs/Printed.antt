-- The text of a table by the places of its chains.
use Rattle.std.specs.Prelude.{ℕ, ◌==◌, ◌&&◌, Bool, List, [], ◌∷◌, ◌++◌, map, not, cond, Option, Some, None, is_some}
use Rattle.std.specs.List.{filter, flat_map}
use Rattle.std.specs.FinMap as finite
use Rattle.kp_types.specs.Places.{table_place}
use Rattle.kp_types.specs.declared.chain.TableName.{TableName}
use Rattle.kp_types.specs.declared.chain.ChainAt.{ChainAt}
use Rattle.kp_types.specs.declared.rule.Rule.{Rule}
use Rattle.kp_table_defs.specs.Rebuild.{Chains}
use Rattle.kp_table_defs.specs.Ranks.{built_in_chains, is_built_in}
use Rattle.kp_restore_defs.specs.RuleText.{rule_line}
use Rattle.kp_restore_defs.specs.TableText.{text_of_lines}

-- a line with its line feed
abbrev pub ended : List ℕ → List ℕ
ended line = line ++ 10 ∷ []

-- the place of a chain
abbrev pub place : TableName → List ℕ → ChainAt
place table name = record { table = table; chain = name }

-- a place, if it has a chain
abbrev pub if_there : Chains → ChainAt → List ChainAt
if_there chains at = cond (is_some (finite.get chains at)) (at ∷ []) []

-- the places of those of some chains that there are
abbrev pub places_there : Chains → TableName → List (List ℕ) → List ChainAt
places_there chains table names = flat_map (λ name. if_there chains (place table name)) names

-- the places of the built-in chains that there are
abbrev pub built_in_places : Chains → TableName → List ChainAt
built_in_places chains table = places_there chains table (built_in_chains table)

-- a chain of a table that isn't built in
abbrev pub is_other : TableName → ChainAt → Bool
is_other table at = (table_place at.table == table_place table) && not (is_built_in table at.chain)

-- the places of the other chains
abbrev pub other_places : Chains → TableName → List ChainAt
other_places chains table = filter (is_other table) (finite.keys chains)

-- the line that declares a chain, with what stands behind its name
abbrev pub chain_text : List ℕ → ChainAt → List ℕ
chain_text end at = ended (58 ∷ at.chain ++ end)

-- the lines of rules
abbrev pub rules_text : List ℕ → Option (List Rule) → List ℕ
rules_text chain None = []
rules_text chain (Some rules) = text_of_lines (map (rule_line chain) rules)

-- the rules of the chain at a place
abbrev pub rules_at : Chains → ChainAt → List ℕ
rules_at chains at = rules_text at.chain (finite.get chains at)
