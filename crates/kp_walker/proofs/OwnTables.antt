-- A walk that looks chains up in the tables of a family is the walk of those tables.
use Rattle.std.proofs.Common.{◌≡◌, ℕ, zero, suc, true, List, Option, None, Some, is_some}
use Rattle.std.proofs.Common.{Bor, option_copied, refl, sym, ap, ◌∙◌}
use Rattle.kp_base.specs.declared.address.Family.{Family}
use Rattle.kp_base.specs.declared.address.Family.TheVariants.{V4, V6}
use Rattle.kp_types.specs.Places.{place_in, table_in}
use Rattle.kp_types.specs.declared.chain.ChainAt.{ChainAt}
use Rattle.kp_types.specs.declared.chain.TableName.{TableName}
use Rattle.kp_types.specs.declared.rule.Rule.{Rule}
use Rattle.kp_choice_defs.specs.Recent.{RecentParts}
use Rattle.kp_table_defs.specs.Matching.{WalkState, Surroundings}
use Rattle.kp_table_defs.specs.Ranks.{built_in_chains}
use Rattle.kp_table_defs.specs.Walk.{chain_outcome, found_outcome}
use Rattle.kp_walker.specs.Journeys.{table_of}
use Rattle.kp_walker.specs.Sets.{ChainSets, FoundSets}
use Rattle.kp_walker.specs.declared.journey.Stage.{Stage}
use Rattle.kp_walker.specs.declared.journey.Stage.TheVariants.{Translating, Filtering, Masquerading}

-- the built-in chains of a stage's table are those of IPv4's
pub same_hooks : (family : Family) (stage : Stage)
    → built_in_chains (table_in family (table_of stage)) ≡ built_in_chains (table_of stage)
same_hooks V4 Translating = refl
same_hooks V4 Filtering = refl
same_hooks V4 Masquerading = refl
same_hooks V6 Translating = refl
same_hooks V6 Filtering = refl
same_hooks V6 Masquerading = refl

module _ (e : Surroundings) (at : ChainAt → Option (List Rule))
    (family : Family) (table : TableName) where
  -- the look-up in the family's tables
  abbrev own : ChainAt → Option (List Rule)
  own place = at (place_in family place)

  -- what it finds of a chain
  abbrev found : List ℕ → Option (List Rule)
  found chain = at (record { table = table_in family table; chain = chain })

  -- a chain has the outcome that it has in the family's table
  pub same_chain : (n : ℕ) (chain : List ℕ) (s : WalkState)
      → chain_outcome e own table n chain s ≡ chain_outcome e at (table_in family table) n chain s
  same_chain zero chain s = refl
  same_chain (suc n) chain s =
      λ i. found_outcome e (λ c t. same_chain n c t i) chain (found chain) s

  -- and comes to the sets that it comes to there
  pub same_sets : (n : ℕ) (chain : List ℕ) (s : WalkState) (lists : RecentParts)
      → ◌≡◌ {A = Type 0} (ChainSets e own table n chain s lists)
      (ChainSets e at (table_in family table) n chain s lists)
  same_sets zero chain s lists = refl
  same_sets (suc n) chain s lists =
      λ i. FoundSets e (λ c t. same_chain n c t i) (λ c t l. same_sets n c t l i) (found chain)
      s lists

-- a chain that was found is there
pub there : {X : Type 0} (found : Option (Bor X)) (o : Option X)
    → option_copied found ≡ o → is_some found ≡ true → is_some o ≡ true
there {X} found o is some = ap is_some (sym is) ∙ copied found ∙ some
  where
    copied : (r : Option (Bor X)) → is_some (option_copied r) ≡ is_some r
    copied None = refl
    copied (Some r) = refl
