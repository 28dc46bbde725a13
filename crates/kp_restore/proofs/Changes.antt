-- The changes between two canonical tables that agree on the built-in chains are a canonical batch.
use Rattle.std.proofs.Common.{◌≡◌, Bool, true, false, ◌==◌, ◌&&◌, not, cond, List, [], ◌∷◌, ◌++◌, bytes_eq, fold, Option, Some, None, is_some, T, refl, sym, ap, ◌∙◌}
use Rattle.std.specs.Ordering.{is_lt}
use Rattle.std.specs.declared.cmp.Ordering.TheVariants.{Less}
use Rattle.std.specs.FinMap.{entries, entries_sorted, get}
use Rattle.std.specs.FinMap.Entries.{is_sorted, below_all}
use Rattle.std.specs.List.{list_all, filter_map, AllByRecursion}
use Rattle.std.proofs.lemmas.Bool.{and_parts, and_from, false_from_ne_true, false≢true}
use Rattle.std.proofs.lemmas.Option.{none-some}
use Rattle.std.proofs.lemmas.Cmp.{tied_itself}
use Rattle.std.proofs.lemmas.List.{append-nil}
use Rattle.kp_base.specs.declared.address.Family.{Family}
use Rattle.kp_base.specs.declared.address.Family.TheVariants.{V4, V6}
use Rattle.kp_types.specs.Chains.{is_chain_name}
use Rattle.kp_types.specs.Places.{chain_cmp, table_place, nat_of, filter_of}
use Rattle.kp_types.specs.declared.chain.TableName.{TableName}
use Rattle.kp_types.specs.declared.chain.ChainAt.{ChainAt}
use Rattle.kp_types.specs.declared.rule.Rule.{Rule}
use Rattle.kp_types.specs.declared.rule.Edit.{Edit}
use Rattle.kp_types.specs.declared.rule.Edit.TheVariants.{Write, Remove}
use Rattle.kp_types.proofs.ChainOrder.{chain_total, one_table_from_test}
use Rattle.kp_table_defs.specs.Edits.{chains_after_edit, is_found_with, write_if_changed, remove_if_gone, chains_in, table_changes, changes_of, changes_between}
use Rattle.kp_table_defs.specs.Ranks.{is_built_in}
use Rattle.kp_table_defs.specs.Rebuild.{Chains}
use Rattle.kp_rules.proofs.ChangeLists.{Entries}
use Rattle.kp_rules.proofs.OtherFamily.{no_changes_beside}
use Rattle.kp_rules.proofs.ChangesLead.{In_option, all_filter_map, changes_lead, same_rules_exact}
use Rattle.kp_restore_defs.specs.RuleText.{is_canonical_rule}
use Rattle.kp_restore_defs.specs.TableText.{may_stand, is_canonical_chain, is_chain_of, is_canonical_table}
use Rattle.kp_restore_defs.specs.BatchText.{is_canonical_batch}
use Rattle.kp_restore_defs.specs.BatchesBetween.{HaveSameBuiltIn, ChangesAreCanonical, ReadChangesLeadOver}
use Rattle.kp_restore.proofs.Pairs.{EachPair, all_kept, pairs_append, pairs_given, pairs_kept}
use Rattle.kp_restore.proofs.BatchEdits.{IsGoodIn, IsPart, StandsBefore, canonical_batch, from_near, placed}
use Rattle.kp_restore.proofs.BatchTexts.{batch_texts_differ}
use Rattle.kp_restore.proofs.TableTexts.{canonical_parts}
use Rattle.kp_lemmas.proofs.ListFacts.{test_weaker, all_append, all_both, all_tested, all_weaker}
use Rattle.kp_lemmas.proofs.Booleans.{both_facts}
use Rattle.kp_lemmas.proofs.Orders.{less_from_fact}
use Rattle.kp_lemmas.proofs.Entries.{entries_found}
use Rattle.kp_base.proofs.SameParts.{text_test_exact}

-- ---- Entries in order

below : (e : ChainAt × List Rule) (es : Entries) → T (below_all chain_cmp e.0 es) → AllByRecursion (λ f. chain_cmp e.0 f.0 ≡ Less) es
below e [] h = tt
below e (f ∷ es) h = let parts = both_facts _ _ h in (less_from_fact _ parts.0, below e es parts.1)

sorted_pairs : (es : Entries) → T (is_sorted chain_cmp es) → EachPair (λ e f. chain_cmp e.0 f.0 ≡ Less) es
sorted_pairs [] h = tt
sorted_pairs (e ∷ es) h = let parts = both_facts _ _ h in (below e es parts.0, sorted_pairs es parts.1)

-- ---- Edits that may stand one before the other

-- different places
apart : (a b : ChainAt) → (a ≡ b → ⊥) → (table_place a.table == table_place b.table && bytes_eq a.chain b.chain) ≡ false
apart a b other =
    false_from_ne_true (table_place a.table == table_place b.table && bytes_eq a.chain b.chain)
    (λ e. let parts = and_parts (table_place a.table == table_place b.table) (bytes_eq a.chain b.chain) e in
    other (λ i. record { table = one_table_from_test a.table b.table parts.0 i; chain = text_test_exact a.chain b.chain parts.1 i }))

less_apart : (a b : ChainAt) → chain_cmp a b ≡ Less → a ≡ b → ⊥
less_apart a b h e = false≢true (sym (ap is_lt (tied_itself chain_total a)) ∙ ap (λ c. is_lt (chain_cmp a c)) e ∙ ap is_lt h)

-- where both are changes
both_stand : (s t : Bool) (x y : Edit) → StandsBefore x y → In_option (λ x. In_option (StandsBefore x) (cond t None (Some y))) (cond s None (Some x))
both_stand true t x y h = tt
both_stand false true x y h = tt
both_stand false false x y h = h

writes_stand : (before : Chains) (a b : ChainAt × List Rule) → chain_cmp a.0 b.0 ≡ Less → In_option (λ x. In_option (StandsBefore x) (write_if_changed before b)) (write_if_changed before a)
writes_stand before a b h =
    both_stand (is_found_with a.1 (get before a.0)) (is_found_with b.1 (get before b.0)) (Write a.0 a.1) (Write b.0 b.1) (ap is_lt h, apart a.0 b.0 (less_apart a.0 b.0 h))

removes_stand : (after : Chains) (a b : ChainAt × List Rule) → chain_cmp a.0 b.0 ≡ Less → In_option (λ x. In_option (StandsBefore x) (remove_if_gone after b)) (remove_if_gone after a)
removes_stand after a b h =
    both_stand (is_some (get after a.0)) (is_some (get after b.0)) (Remove a.0) (Remove b.0) (ap is_lt h, apart a.0 b.0 (less_apart a.0 b.0 h))

-- what is made of the entries of a table stands in their order
entries_stand : (chains : Chains) (table : TableName) (f : ChainAt × List Rule → Option Edit)
    → ((a b : ChainAt × List Rule) → chain_cmp a.0 b.0 ≡ Less → In_option (λ x. In_option (StandsBefore x) (f b)) (f a)) → EachPair StandsBefore (filter_map f (chains_in table chains))
entries_stand chains table f each =
    pairs_given (λ e f. chain_cmp e.0 f.0 ≡ Less) StandsBefore f each (chains_in table chains)
    (pairs_kept (λ e f. chain_cmp e.0 f.0 ≡ Less) (λ e. table_place e.0.table == table_place table) (entries chains) (sorted_pairs (entries chains) (entries_sorted chains)))

-- ---- The changes of a table

module _ (family : Family) (before after : Chains) (first : is_canonical_table family before ≡ true) (second : is_canonical_table family after ≡ true) (same : HaveSameBuiltIn before after) where
  -- an entry of a canonical table
  abbrev IsEntry : Chains → ChainAt × List Rule → Type 0
  IsEntry chains e = (get chains e.0 ≡ Some e.1) × ((is_canonical_chain family chains e ≡ true) × (is_chain_of family e ≡ true))

  entries_are : (chains : Chains) → is_canonical_table family chains ≡ true → AllByRecursion (IsEntry chains) (entries chains)
  entries_are chains h =
      let parts = canonical_parts family chains h in
      all_both (λ e. get chains e.0 ≡ Some e.1) (λ e. (is_canonical_chain family chains e ≡ true) × (is_chain_of family e ≡ true)) (entries chains) (entries_found chain_total chains)
      (all_both (λ e. is_canonical_chain family chains e ≡ true) (λ e. is_chain_of family e ≡ true) (entries chains)
      (all_tested (is_canonical_chain family chains) (entries chains) parts.1) (all_tested (is_chain_of family) (entries chains) parts.2))

  -- a write as the second table has the chain, and a remove that it lacks
  abbrev Leads : Bool → Edit → Type 0
  Leads true (Write at rules) = get after at ≡ Some rules
  Leads false (Remove at) = get after at ≡ None
  Leads writes e = ⊥

  abbrev IsWriteIn : TableName → Edit → Type 0
  IsWriteIn table e = IsGoodIn family table e × Leads true e

  abbrev IsRemoveIn : TableName → Edit → Type 0
  IsRemoveIn table e = IsGoodIn family table e × Leads false e

  write_is : (table : TableName) (e : ChainAt × List Rule) → IsEntry after e × (table_place e.0.table == table_place table ≡ true) → In_option (IsWriteIn table) (write_if_changed before e)
  write_is table e h = by (is_found_with e.1 (get before e.0)) refl
    where
      named : is_chain_name e.0.chain ≡ true
      named = (and_parts (is_chain_name e.0.chain) (list_all (may_stand family after e.0.table) e.1) h.0.1.0).0

      ruled : list_all (is_canonical_rule family) e.1 ≡ true
      ruled =
          test_weaker (may_stand family after e.0.table) (is_canonical_rule family) (λ r k. (and_parts (is_canonical_rule family r) _ k).0) e.1
          (and_parts (is_chain_name e.0.chain) (list_all (may_stand family after e.0.table) e.1) h.0.1.0).1

      other : (b : Bool) → is_built_in e.0.table e.0.chain ≡ b → is_found_with e.1 (get before e.0) ≡ false → not b ≡ true
      other false t k = refl
      other true t k = absurd (false≢true (sym k ∙ ap (is_found_with e.1) (same e.0 t ∙ h.0.0) ∙ (same_rules_exact e.1 e.1).1 refl))

      by : (b : Bool) → is_found_with e.1 (get before e.0) ≡ b → In_option (IsWriteIn table) (cond b None (Some (Write e.0 e.1)))
      by true k = tt
      by false k = ((one_table_from_test e.0.table table h.1, and_from _ _ h.0.1.1 (and_from _ _ named (and_from _ _ (other (is_built_in e.0.table e.0.chain) refl k) ruled))), h.0.0)

  remove_is : (table : TableName) (e : ChainAt × List Rule) → IsEntry before e × (table_place e.0.table == table_place table ≡ true) → In_option (IsRemoveIn table) (remove_if_gone after e)
  remove_is table e h = by (get after e.0) refl
    where
      other : (b : Bool) → is_built_in e.0.table e.0.chain ≡ b → get after e.0 ≡ None → not b ≡ true
      other false t k = refl
      other true t k = absurd (none-some e.1 (sym k ∙ sym (same e.0 t) ∙ h.0.0))

      by : (o : Option (List Rule)) → get after e.0 ≡ o → In_option (IsRemoveIn table) (cond (is_some o) None (Some (Remove e.0)))
      by (Some rules) k = tt
      by None k = (
        (one_table_from_test e.0.table table h.1, and_from _ _ h.0.1.1 (and_from _ _ (and_parts (is_chain_name e.0.chain) _ h.0.1.0).0 (and_from _ _ (other (is_built_in e.0.table e.0.chain) refl k) refl))),
        k,
      )

  -- both kinds of changes of a table
  abbrev writes : TableName → List Edit
  writes table = filter_map (write_if_changed before) (chains_in table after)

  abbrev removes : TableName → List Edit
  removes table = filter_map (remove_if_gone after) (chains_in table before)

  -- what holds of what is made of each entry of a table
  all_made : (chains : Chains) → is_canonical_table family chains ≡ true → (table : TableName) (f : ChainAt × List Rule → Option Edit) (P : Edit → Type 0)
      → ((e : ChainAt × List Rule) → IsEntry chains e × (table_place e.0.table == table_place table ≡ true) → In_option P (f e)) → AllByRecursion P (filter_map f (chains_in table chains))
  all_made chains h table f P each =
      let test : ChainAt × List Rule → Bool = λ e. table_place e.0.table == table_place table in
      all_filter_map P f (chains_in table chains)
      (all_weaker (λ e. IsEntry chains e × (test e ≡ true)) (λ e. In_option P (f e)) each (chains_in table chains) (all_kept (IsEntry chains) test (entries chains) (entries_are chains h)))

  all_writes : (table : TableName) → AllByRecursion (IsWriteIn table) (writes table)
  all_writes table = all_made after second table (write_if_changed before) (IsWriteIn table) (write_is table)

  all_removes : (table : TableName) → AllByRecursion (IsRemoveIn table) (removes table)
  all_removes table = all_made before first table (remove_if_gone after) (IsRemoveIn table) (remove_is table)

  -- a write stands before the removes of its table
  write_stands : (table : TableName) (a b : Edit) → IsWriteIn table a → IsRemoveIn table b → StandsBefore a b
  write_stands table (Write at rules) (Write to other) w r = absurd r.1
  write_stands table (Remove at) b w r = absurd w.1
  write_stands table (Write at rules) (Remove to) w r =
      let differ = apart at to (λ e. none-some rules (sym r.1 ∙ ap (get after) (sym e) ∙ w.1)) in
      from_near (Write at rules) (Remove to) (w.0.0 ∙ sym r.0.0) (refl, sym (placed (Write at rules) (Remove to) (w.0.0 ∙ sym r.0.0)) ∙ differ)

  changes_stand : (table : TableName) → EachPair StandsBefore (table_changes before after table)
  changes_stand table =
      pairs_append StandsBefore (writes table) (removes table)
      (entries_stand after table (write_if_changed before) (writes_stand before))
      (entries_stand before table (remove_if_gone after) (removes_stand after))
      (all_weaker (IsWriteIn table) (λ a. AllByRecursion (StandsBefore a) (removes table))
      (λ a w. all_weaker (IsRemoveIn table) (StandsBefore a) (λ b r. write_stands table a b w r) (removes table) (all_removes table)) (writes table) (all_writes table))

  -- ---- Both tables

  all_good : (table : TableName) → AllByRecursion (IsGoodIn family table) (table_changes before after table)
  all_good table =
      all_append (IsGoodIn family table) (writes table) (removes table)
      (all_weaker (IsWriteIn table) (IsGoodIn family table) (λ e w. w.0) (writes table) (all_writes table))
      (all_weaker (IsRemoveIn table) (IsGoodIn family table) (λ e r. r.0) (removes table) (all_removes table))

  canonical : is_canonical_batch family (changes_of family before after) ≡ true
  canonical =
      let part : (table : TableName) → IsPart family table (table_changes before after table) = λ table. (all_good table, changes_stand table) in
      canonical_batch family (table_changes before after (nat_of family)) (table_changes before after (filter_of family)) (part (nat_of family)) (part (filter_of family))

-- tables of one family have no changes of the other
pub own_changes : (family : Family) (before after : Chains) → is_canonical_table family before ≡ true → is_canonical_table family after ≡ true → changes_between before after ≡ changes_of family before after
own_changes V4 before after g h =
    ap (λ es. changes_of V4 before after ++ es) (no_changes_beside V4 V6 refl before after (canonical_parts V4 before g).2 (canonical_parts V4 after h).2)
    ∙ append-nil (changes_of V4 before after)
own_changes V6 before after g h =
    ap (λ es. es ++ changes_of V6 before after) (no_changes_beside V6 V4 refl before after (canonical_parts V6 before g).2 (canonical_parts V6 after h).2)

pub changes_canonical : ChangesAreCanonical
changes_canonical family before after first second same = canonical family before after first second same

pub read_changes_lead : ReadChangesLeadOver
read_changes_lead family before after first second same edits good text =
    ap (fold chains_after_edit before)
    (batch_texts_differ family edits (changes_of family before after) good (canonical family before after first second same) text ∙ sym (own_changes family before after first second))
    ∙ changes_lead before after
