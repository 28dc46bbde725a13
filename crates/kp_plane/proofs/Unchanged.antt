-- A table that stays has no changes.
use Rattle.std.proofs.Common.{◌≡◌, cond, List, [], ◌∷◌, ◌++◌, Option, Some, None, is_some, refl, ap, ◌∙◌}
use Rattle.std.specs.List.{cons_option, filter_map, AllByRecursion}
use Rattle.std.specs.FinMap as finite
use Rattle.kp_lemmas.proofs.Entries.{entries_found}
use Rattle.kp_lemmas.proofs.ListFacts.{all_filter, all_weaker}
use Rattle.kp_types.proofs.ChainOrder.{chain_total}
use Rattle.kp_types.specs.declared.chain.ChainAt.{ChainAt}
use Rattle.kp_types.specs.declared.chain.TableName.{TableName}
use Rattle.kp_types.specs.declared.chain.TableName.TheVariants.{Nat, Filter, Nat6, Filter6}
use Rattle.kp_types.specs.declared.rule.Edit.TheVariants.{Write, Remove}
use Rattle.kp_types.specs.declared.rule.Rule.{Rule}
use Rattle.kp_table_defs.specs.Edits.{SameRulesAreEqual, is_found_with, write_if_changed, remove_if_gone, chains_in, table_changes, changes_between}
use Rattle.kp_table_defs.specs.Rebuild.{Chains}

-- nothing comes of elements that give nothing
pub none_of : {X Y : Type 0} (f : X → Option Y) (xs : List X) → AllByRecursion (λ x. f x ≡ None) xs → filter_map f xs ≡ []
none_of f [] all = refl
none_of f (x ∷ xs) all = ap (λ o. cons_option o (filter_map f xs)) all.0 ∙ none_of f xs all.1

module _ (same : SameRulesAreEqual) (chains : Chains) where
  abbrev IsFound : ChainAt × List Rule → Type 0
  IsFound e = finite.get chains e.0 ≡ Some e.1

  not_written : (e : ChainAt × List Rule) → IsFound e → write_if_changed chains e ≡ None
  not_written e found =
      ap (λ o. cond (is_found_with e.1 o) None (Some (Write e.0 e.1))) found
      ∙ ap (λ b. cond b None (Some (Write e.0 e.1))) ((same e.1 e.1).1 refl)

  not_removed : (e : ChainAt × List Rule) → IsFound e → remove_if_gone chains e ≡ None
  not_removed e found = ap (λ (o : Option (List Rule)). cond (is_some o) None (Some (Remove e.0))) found

  all_found : (table : TableName) → AllByRecursion IsFound (chains_in table chains)
  all_found table = all_filter IsFound _ (finite.entries chains) (entries_found chain_total chains)

  no_table_changes : (table : TableName) → table_changes chains chains table ≡ []
  no_table_changes table =
      ap (λ es. es ++ filter_map (remove_if_gone chains) (chains_in table chains))
      (none_of (write_if_changed chains) (chains_in table chains) (all_weaker IsFound (λ e. write_if_changed chains e ≡ None) not_written (chains_in table chains) (all_found table)))
      ∙ none_of (remove_if_gone chains) (chains_in table chains) (all_weaker IsFound (λ e. remove_if_gone chains e ≡ None) not_removed (chains_in table chains) (all_found table))

  -- no edit leads from a table to itself
  pub no_changes : changes_between chains chains ≡ []
  no_changes = λ i.
      (no_table_changes Nat i ++ no_table_changes Filter i)
      ++ (no_table_changes Nat6 i ++ no_table_changes Filter6 i)
