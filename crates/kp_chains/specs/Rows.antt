-- Chains with their rules, as the program makes them.
use Rattle.std.specs.Prelude.{ℕ, ◌+◌, List, [], ◌∷◌, map, length}
use Rattle.kp_types.specs.declared.chain.ChainAt.{ChainAt}
use Rattle.kp_types.specs.declared.rule.Rule.{Rule}
use Rattle.kp_types.specs.declared.rule.ChainText.{ChainText}

-- a chain's place and its rules
abbrev pub row_of : ChainText → ChainAt × List Rule
row_of c = (c.at, c.rules)

-- all of them
abbrev pub rows_of_texts : List ChainText → List (ChainAt × List Rule)
rows_of_texts cs = map row_of cs

-- how many rules chains have together
abbrev pub rule_count : List (ChainAt × List Rule) → ℕ
rule_count [] = 0
rule_count (r ∷ rs) = length r.1 + rule_count rs
