-- The test of ranks at one place.
use Rattle.std.specs.Prelude.{Bool, true, List, Option, Some, None}
use Rattle.std.specs.FinMap as finite
use Rattle.kp_types.specs.declared.chain.ChainAt.{ChainAt}
use Rattle.kp_types.specs.declared.rule.Rule.{Rule}
use Rattle.kp_table_defs.specs.Ranks.{is_ranked_chain}
use Rattle.kp_table_defs.specs.Rebuild.{Chains}

-- whether a chain that was found is ranked
abbrev pub is_ranked_if_found : Chains → ChainAt → Option (List Rule) → Bool
is_ranked_if_found chains at None = true
is_ranked_if_found chains at (Some rules) = is_ranked_chain chains (at, rules)

-- whether the chain at a place is ranked
abbrev pub is_ranked_at : Chains → ChainAt → Bool
is_ranked_at chains at = is_ranked_if_found chains at (finite.get chains at)
