-- The part of a batch that is of one family: which edits it has, what is printed of it, and where
-- it leads.
use Rattle.std.proofs.Common.{◌≡◌, ◌++◌, ◌==◌, Bool, true, false, cond, List, [], ◌∷◌, Contains, Some, None, inl, inr, refl, sym, ap, ◌∙◌}
use Rattle.std.specs.FinMap.{get, get-insert, get-remove}
use Rattle.std.specs.List.{fold}
use Rattle.std.specs.Ordering.{eq_by_cmp}
use Rattle.std.proofs.lemmas.Bool.{false≢true, false_from_ne_true}
use Rattle.std.proofs.lemmas.List.{append-nil}
use Rattle.std.proofs.lemmas.List.Elements.{Contains-append_cases, filter-append}
use Rattle.kp_lemmas.proofs.ListFacts.{filter_all, filter_within}
use Rattle.kp_lemmas.proofs.Members.{all_from, from_filter, from_filter_map, without_elements}
use Rattle.kp_lemmas.proofs.Orders.{one_from_tie}
use Rattle.kp_base.specs.Net.{same_family}
use Rattle.kp_base.specs.declared.address.Family.{Family}
use Rattle.kp_base.specs.declared.address.Family.TheVariants.{V4, V6}
use Rattle.kp_base.proofs.SameParts.{family_itself}
use Rattle.kp_types.specs.Edits.{edits_of_family, is_edit_in, place_of}
use Rattle.kp_types.specs.Places.{chain_cmp, family_of_table, filter_of, nat_of, table_place}
use Rattle.kp_types.specs.declared.chain.ChainAt.{ChainAt}
use Rattle.kp_types.specs.declared.chain.TableName.{TableName}
use Rattle.kp_types.specs.declared.rule.Edit.{Edit}
use Rattle.kp_types.specs.declared.rule.Edit.TheVariants.{Write, Remove}
use Rattle.kp_types.proofs.ChainOrder.{chain_exact, chain_total, one_table_from_test}
use Rattle.kp_types.proofs.TableFamilies.{filter_is_own, nat_is_own}
use Rattle.kp_table_defs.specs.Edits.{chains_after_edit, chains_in, changes_between, changes_of, remove_if_gone, table_changes, write_if_changed}
use Rattle.kp_table_defs.specs.Rebuild.{Chains}
use Rattle.kp_restore_defs.specs.BatchText.{batch_text_of, edits_in, section_if_edited}
use Rattle.kp_restore_defs.specs.TableText.{text_of_lines}
use Rattle.kp_table_laws.specs.Families.{HasTablesOf}
use Rattle.kp_table_laws.proofs.KeyRows.{Row}

-- ---- Which edits

given_place : (at : ChainAt) (b : Bool) (made e : Edit) → place_of made ≡ at
    → cond b None (Some made) ≡ Some e → place_of e ≡ at
given_place at true made e is h = absurd (cc)
given_place at false made e is h = let same : made ≡ e = cc in ap place_of (sym same) ∙ is

module _ (before after : Chains) where
  row_table : (table : TableName) (chains : Chains) (r : Row) → Contains (chains_in table chains) r
      → r.0.table ≡ table
  row_table table chains r c =
      one_table_from_test r.0.table table
      (from_filter (λ (e : Row). table_place e.0.table == table_place table) r _ c).1

  edit_table : (table : TableName) (e : Edit) → Contains (table_changes before after table) e
      → (place_of e).table ≡ table
  edit_table table e c =
      elim (Contains-append_cases _ _ e c) [
        | inl d ↦
            let (r, stands, made) = from_filter_map (write_if_changed before) e _ d in
            ap (λ (at : ChainAt). at.table) (given_place r.0 _ (Write r.0 r.1) e refl made)
            ∙ row_table table after r stands
        | inr d ↦
            let (r, stands, made) = from_filter_map (remove_if_gone after) e _ d in
            ap (λ (at : ChainAt). at.table) (given_place r.0 _ (Remove r.0) e refl made)
            ∙ row_table table before r stands
      ]

  edit_family : (family : Family) (e : Edit) → Contains (changes_of family before after) e
      → family_of_table (place_of e).table ≡ family
  edit_family family e c =
      elim (Contains-append_cases _ _ e c) [
        | inl d ↦ ap family_of_table (edit_table (nat_of family) e d) ∙ nat_is_own family
        | inr d ↦ ap family_of_table (edit_table (filter_of family) e d) ∙ filter_is_own family
      ]

  own_kept : (family : Family)
      → edits_of_family family (changes_of family before after) ≡ changes_of family before after
  own_kept family =
      filter_all (is_edit_in family) _ (all_from (is_edit_in family) _ (λ e c.
      ap (λ f. same_family f family) (edit_family family e c) ∙ family_itself family))

  none_kept : (family other : Family) → same_family other family ≡ false
      → edits_of_family family (changes_of other before after) ≡ []
  none_kept family other differ =
      without_elements _ (λ e c.
      let (stands, of) = from_filter (is_edit_in family) e (changes_of other before after) c in
      false≢true (sym differ ∙ ap (λ f. same_family f family) (sym (edit_family other e stands))
      ∙ of))

  -- of the changes between two tables a family's part is the changes of its tables
  pub part_of_changes : (family : Family)
      → edits_of_family family (changes_between before after) ≡ changes_of family before after
  part_of_changes V4 =
      filter-append (is_edit_in V4) (changes_of V4 before after) (changes_of V6 before after)
      ∙ (λ i. own_kept V4 i ++ none_kept V4 V6 refl i) ∙ append-nil (changes_of V4 before after)
  part_of_changes V6 =
      filter-append (is_edit_in V6) (changes_of V4 before after) (changes_of V6 before after)
      ∙ (λ i. none_kept V6 V4 refl i ++ own_kept V6 i)

-- ---- What is printed

module _ (family : Family) (edits : List Edit) where
  in_table : (table : TableName) → family_of_table table ≡ family
      → edits_in table (edits_of_family family edits) ≡ edits_in table edits
  in_table table of =
      filter_within (is_edit_in family) (λ e. table_place (place_of e).table == table_place table)
      (λ e h. ap (λ f. same_family f family)
      (ap family_of_table (one_table_from_test (place_of e).table table h) ∙ of)
      ∙ family_itself family) edits

  -- what is printed of a batch in a family is printed of its part
  pub text_of_part : batch_text_of family (edits_of_family family edits)
      ≡ batch_text_of family edits
  text_of_part = λ i.
      text_of_lines
      (section_if_edited (nat_of family) (in_table (nat_of family) (nat_is_own family) i)
      ++ section_if_edited (filter_of family)
      (in_table (filter_of family) (filter_is_own family) i))

-- ---- Where it leads

module _ (family : Family) where
  after_both : (left right : Chains) (e : Edit) → HasTablesOf family left right
      → HasTablesOf family (chains_after_edit left e) (chains_after_edit right e)
  after_both left right (Write at rules) alike q of =
      get-insert chain_total left at rules q
      ∙ ap (λ found. cond (eq_by_cmp chain_cmp q at) (Some rules) found) (alike q of)
      ∙ sym (get-insert chain_total right at rules q)
  after_both left right (Remove at) alike q of =
      get-remove chain_total left at q
      ∙ ap (λ found. cond (eq_by_cmp chain_cmp q at) None found) (alike q of)
      ∙ sym (get-remove chain_total right at q)

  -- an edit of another family's chain changes none of this one
  apart : (at q : ChainAt) → same_family (family_of_table at.table) family ≡ false
      → family_of_table q.table ≡ family → eq_by_cmp chain_cmp q at ≡ false
  apart at q beside of =
      false_from_ne_true _ (λ tie.
      false≢true (sym beside ∙ ap (λ (p : ChainAt). same_family (family_of_table p.table) family)
      (sym (one_from_tie chain_exact q at tie))
      ∙ ap (λ f. same_family f family) of ∙ family_itself family))

  after_other : (left right : Chains) (e : Edit) → is_edit_in family e ≡ false
      → HasTablesOf family left right → HasTablesOf family left (chains_after_edit right e)
  after_other left right (Write at rules) beside alike q of =
      alike q of ∙ ap (λ b. cond b (Some rules) (get right q)) (sym (apart at q beside of))
      ∙ sym (get-insert chain_total right at rules q)
  after_other left right (Remove at) beside alike q of =
      alike q of ∙ ap (λ b. cond b None (get right q)) (sym (apart at q beside of))
      ∙ sym (get-remove chain_total right at q)

  -- a family's part of a batch makes of its tables what the whole batch makes of them
  pub part_leads : (edits : List Edit) (left right : Chains) → HasTablesOf family left right
      → HasTablesOf family (fold chains_after_edit left (edits_of_family family edits))
      (fold chains_after_edit right edits)
  part_leads [] left right alike = alike
  part_leads (e ∷ es) left right alike =
      by (is_edit_in family e) refl (λ l r. part_leads es l r)
    where
      by : (b : Bool) → is_edit_in family e ≡ b
          → ((l r : Chains) → HasTablesOf family l r
          → HasTablesOf family (fold chains_after_edit l (edits_of_family family es))
          (fold chains_after_edit r es))
          → HasTablesOf family (fold chains_after_edit left
          (cond b (e ∷ edits_of_family family es) (edits_of_family family es)))
          (fold chains_after_edit (chains_after_edit right e) es)
      by true h rest = rest _ _ (after_both left right e alike)
      by false h rest = rest left _ (after_other left right e h alike)
