-- A table is ranked where the chains at all its places are.
use Rattle.std.proofs.Common.{◌≡◌, ◌&&◌, List, [], ◌∷◌, map, Some, refl}
use Rattle.std.specs.FinMap.{keys, get, entries}
use Rattle.std.specs.List.{list_all, AllByRecursion}
use Rattle.kp_types.specs.declared.chain.ChainAt.{ChainAt}
use Rattle.kp_types.specs.declared.rule.Rule.{Rule}
use Rattle.kp_table_defs.specs.Ranks.{is_ranked, is_ranked_chain}
use Rattle.kp_table_defs.specs.Rebuild.{Chains}
use Rattle.kp_rules.specs.Ranked.{is_ranked_at, is_ranked_if_found}
use Rattle.kp_lemmas.proofs.Entries.{entries_found}
use Rattle.kp_types.proofs.ChainOrder.{chain_total}

along : (m : Chains) (es : List (ChainAt × List Rule)) → AllByRecursion (λ e. get m e.0 ≡ Some e.1) es → list_all (is_ranked_at m) (map (λ e. e.0) es) ≡ list_all (is_ranked_chain m) es
along m [] a = refl
along m (e ∷ es) a = λ i. is_ranked_if_found m e.0 (a.0 i) && along m es a.1 i

pub ranked_by_places : (m : Chains) → list_all (is_ranked_at m) (keys m) ≡ is_ranked m
ranked_by_places m = along m (entries m) (entries_found chain_total m)
