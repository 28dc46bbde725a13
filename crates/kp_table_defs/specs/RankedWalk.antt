-- What ranks are for: a walk through a ranked table gets to an end.
use Rattle.std.specs.Prelude.{◌≡◌, ◌≢◌, ℕ, true, List, is_some}
use Rattle.std.specs.FinMap as finite
use Rattle.kp_types.specs.declared.chain.TableName.{TableName}
use Rattle.kp_table_defs.specs.Matching.{WalkState, Surroundings}
use Rattle.kp_table_defs.specs.Ranks.{is_built_in, is_ranked}
use Rattle.kp_table_defs.specs.Rebuild.{Chains}
use Rattle.kp_table_defs.specs.Walk.{Stuck, chain_outcome, most_chains}

-- Where all chains are ranked, no walk of a hook gets stuck whose built-in chain is there.
abbrev pub RankedWalksEnd : Type 0
RankedWalksEnd =
    (chains : Chains) → is_ranked chains ≡ true
    → (table : TableName) (chain : List ℕ) → is_built_in table chain ≡ true
    → is_some (finite.get chains (record { table = table; chain = chain })) ≡ true
    → (e : Surroundings) (s : WalkState) → chain_outcome e (finite.get chains) table most_chains chain s ≢ Stuck
