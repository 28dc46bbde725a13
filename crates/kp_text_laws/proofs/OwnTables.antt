-- What is printed of a family's tables, and whether they have a text of their own, depends on these
-- tables alone.
use Rattle.std.proofs.Common.{◌≡◌, ◌&&◌, ◌++◌, Bool, true, false, cond, not, List, [], ◌∷◌, map, is_some, option_map, refl, sym, ap, ◌∙◌}
use Rattle.std.specs.FinMap.{entries, entries_sorted, get-entries}
use Rattle.std.specs.List.{filter, filter_map, list_all}
use Rattle.kp_base.specs.Net.{same_family}
use Rattle.kp_base.specs.declared.address.Family.{Family}
use Rattle.kp_base.proofs.SameParts.{same_family_exact}
use Rattle.kp_types.specs.Chains.{is_chain_name}
use Rattle.kp_types.specs.Places.{family_of_table, filter_of, nat_of}
use Rattle.kp_types.specs.declared.chain.ChainAt.{ChainAt}
use Rattle.kp_types.specs.declared.chain.TableName.{TableName}
use Rattle.kp_types.specs.declared.rule.Rule.{Rule}
use Rattle.kp_types.specs.declared.rule.Target.{Target}
use Rattle.kp_types.specs.declared.rule.Target.TheVariants as target
use Rattle.kp_types.proofs.ChainOrder.{chain_exact, chain_total}
use Rattle.kp_types.proofs.TableFamilies.{filter_is_own, nat_is_own}
use Rattle.kp_table_defs.specs.Ranks.{built_in_chains, has_built_in, has_chains_of, is_built_in}
use Rattle.kp_table_defs.specs.Rebuild.{Chains}
use Rattle.kp_restore_defs.specs.RuleText.{is_canonical_rule}
use Rattle.kp_restore_defs.specs.TableText.{is_canonical_chain, is_canonical_part, is_chain_of, jumps_to_declared, section_lines, section_of, table_text_of, text_of_lines}
use Rattle.kp_table_laws.specs.Families.{HasTablesOf}
use Rattle.kp_table_laws.proofs.Families.{chains_alike, kept_alike}
use Rattle.kp_table_laws.proofs.KeyRows.{Row}

-- two tests that agree where a third holds
tested_alike : {X : Type 0} (p q test : X → Bool) → ((x : X) → test x ≡ true → p x ≡ q x)
    → (xs : List X) → list_all p (filter test xs) ≡ list_all q (filter test xs)
tested_alike p q test agree [] = refl
tested_alike {X} p q test agree (x ∷ xs) = by (test x) refl (tested_alike p q test agree xs)
  where
    by : (b : Bool) → test x ≡ b → list_all p (filter test xs) ≡ list_all q (filter test xs)
        → list_all p (cond b (x ∷ filter test xs) (filter test xs))
        ≡ list_all q (cond b (x ∷ filter test xs) (filter test xs))
    by true h rest = λ i. agree x h i && rest i
    by false h rest = rest

module _ (family : Family) (chains own : Chains) (alike : HasTablesOf family chains own) where
  declared_alike : (table : TableName) → family_of_table table ≡ family → (t : Target)
      → jumps_to_declared chains table t ≡ jumps_to_declared own table t
  declared_alike table of (target.Jump chain) =
      ap is_some (alike (record { table = table; chain = chain }) of)
  declared_alike table of t = refl

  chain_alike : (r : Row) → is_chain_of family r ≡ true
      → is_canonical_chain family chains r ≡ is_canonical_chain family own r
  chain_alike r of =
      let is = declared_alike r.0.table (same_family_exact _ family of) in
      λ i. is_chain_name r.0.chain
      && list_all (λ (rule : Rule). is_canonical_rule family rule && is rule.target i) r.1

  kept_chains : filter (is_chain_of family) (entries chains)
      ≡ filter (is_chain_of family) (entries own)
  kept_chains =
      kept_alike chain_total chain_exact
      (λ (q : ChainAt). same_family (family_of_table q.table) family)
      (entries chains) (entries own) (entries_sorted chains) (entries_sorted own)
      (λ q of. sym (get-entries chains q) ∙ alike q (same_family_exact _ family of)
      ∙ get-entries own q)

  built_in_alike : (table : TableName) → family_of_table table ≡ family
      → has_built_in chains table ≡ has_built_in own table
  built_in_alike table of = λ i.
      list_all (λ name. is_some (alike (record { table = table; chain = name }) of i))
      (built_in_chains table)

  -- whether they have a text of their own
  pub part_alike : is_canonical_part family chains ≡ is_canonical_part family own
  part_alike =
      (λ i. (built_in_alike (nat_of family) (nat_is_own family) i
      && built_in_alike (filter_of family) (filter_is_own family) i)
      && list_all (is_canonical_chain family chains) (kept_chains i))
      ∙ ap (λ b. has_chains_of family own && b)
      (tested_alike _ _ (is_chain_of family) chain_alike (entries own))

  section_alike : (table : TableName) → family_of_table table ≡ family
      → section_lines chains table ≡ section_lines own table
  section_alike table of = λ i.
      section_of table
      (filter_map (λ name. option_map (λ rules. (name, rules))
      (alike (record { table = table; chain = name }) of i)) (built_in_chains table))
      (map (λ e. (e.0.chain, e.1)) (filter (λ e. not (is_built_in table e.0.chain))
      (chains_alike family table of chains own alike i)))

  -- and that text
  pub text_alike : table_text_of family chains ≡ table_text_of family own
  text_alike = λ i.
      text_of_lines (section_alike (nat_of family) (nat_is_own family) i
      ++ section_alike (filter_of family) (filter_is_own family) i)
