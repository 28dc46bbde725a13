-- The rows of a table's section, and the table that has them.
use Rattle.std.proofs.Common.{◌≡◌, ℕ, ◌==◌, Bool, true, false, cond, not, ◌&&◌, ◌||◌, List, [], ◌∷◌, ◌++◌, map, Option, Some, None, is_some, bytes_eq, refl, sym, ap, ◌∙◌, option_map}
use Rattle.std.specs.List.{list_all, list_any, filter_map, cons_option}
use Rattle.std.specs.Option.{option_or}
use Rattle.std.specs.Ordering.{eq_by_cmp, is_lt}
use Rattle.std.specs.FinMap.{entries, entries_sorted, get, get-entries, find, is_sorted}
use Rattle.std.specs.FinMap.Entries.{below_all, where_key, is_sorted-where_key, find-where_key}
use Rattle.std.proofs.lemmas.Bool.{and_parts, and_from, false_from_ne_true, false≢true}
use Rattle.std.proofs.lemmas.List.{map-append}
use Rattle.std.proofs.lemmas.Option.{same_Some}
use Rattle.kp_base.specs.Keys.{text_cmp}
use Rattle.kp_types.specs.Places.{chain_cmp, table_place}
use Rattle.kp_types.specs.declared.chain.TableName.{TableName}
use Rattle.kp_types.specs.declared.chain.ChainAt.{ChainAt}
use Rattle.kp_types.specs.declared.rule.Rule.{Rule}
use Rattle.kp_types.proofs.ChainOrder.{chain_total, chain_exact, one_table_from_test}
use Rattle.kp_table_defs.specs.Ranks.{built_in_chains, is_built_in, has_built_in}
use Rattle.kp_table_defs.specs.Rebuild.{Chains}
use Rattle.kp_restore_defs.specs.TableText as text
use Rattle.kp_restore_defs.specs.TableText.{row_at, built_in_rows, other_rows}
use Rattle.kp_restore.specs.Sections.{names_of}
use Rattle.kp_restore.specs.declared.section.Row.{Row}
use Rattle.kp_restore.proofs.SectionRows.{AreOthers}
use Rattle.kp_object_defs.specs.Order.{rises}
use Rattle.kp_restore.proofs.Families.{table_tied}
use Rattle.kp_restore.proofs.Rows.{at, entries_of, rules_in, find_rows, rules_append, tied_table}
use Rattle.kp_lemmas.proofs.Orders.{equal_from_test}
use Rattle.kp_lemmas.proofs.Booleans.{true_from_fact}
use Rattle.kp_lemmas.proofs.Entries.{entries_found}
use Rattle.kp_restore.proofs.Tests.{all_true}
use Rattle.kp_base.proofs.SameParts.{text_test_exact}

-- a chain's name and rules as a row that isn't removed
abbrev pub plain : text.Row → Row
plain row = record { chain = row.0; rules = row.1; removed = false }

-- a section's rows: its built-in chains in their order, and the others by their bytes
pub record IsSection (table : TableName) (built_in others : List text.Row) : Type 0 where
  pub first : names_of (map plain built_in) ≡ built_in_chains table
  pub behind : AreOthers table (names_of (map plain others))

-- ---- Entries

-- what holds of all that is found holds of all entries
pub every_entry : (p : ChainAt × List Rule → Bool) (chains : Chains) → ((q : ChainAt) (rules : List Rule) → get chains q ≡ Some rules → p (q, rules) ≡ true) → list_all p (entries chains) ≡ true
every_entry p chains h = all_true p (λ e. get chains e.0 ≡ Some e.1) (λ e. h e.0 e.1) (entries chains) (entries_found chain_total chains)

-- what holds of all entries holds of all that is found
one_in : (p : ChainAt × List Rule → Bool) (es : List (ChainAt × List Rule)) → list_all p es ≡ true → (q : ChainAt) (rules : List Rule) → find chain_cmp q es ≡ Some rules → p (q, rules) ≡ true
one_in p [] a q rules f = absurd (cc)
one_in p (e ∷ es) a q rules f =
    elim (eq_by_cmp chain_cmp q e.0) as (λ b. eq_by_cmp chain_cmp q e.0 ≡ b → cond b (Some e.1) (find chain_cmp q es) ≡ Some rules → p (q, rules) ≡ true) [
      | true ↦ λ t f. (λ i. p (chain_exact q e.0 (equal_from_test _ t) i, sym (same_Some e.1 rules f) i)) ∙ (and_parts _ _ a).0
      | false ↦ λ t f. one_in p es (and_parts _ _ a).1 q rules f
    ] refl f

pub one_entry : (p : ChainAt × List Rule → Bool) (chains : Chains) → list_all p (entries chains) ≡ true → (q : ChainAt) (rules : List Rule) → get chains q ≡ Some rules → p (q, rules) ≡ true
one_entry p chains a q rules f = one_in p (entries chains) a q rules (sym (get-entries chains q) ∙ f)

-- ---- The rows of a table

-- places in two tables differ
pub table_apart : (table : TableName) (q : ChainAt) (name : List ℕ) → (table_place q.table == table_place table) ≡ false → eq_by_cmp chain_cmp q (at table name) ≡ false
table_apart table q name h =
    false_from_ne_true (eq_by_cmp chain_cmp q (at table name))
    (λ e. false≢true (sym h ∙ ap (λ (p : ChainAt). table_place p.table == table_place table) (chain_exact q (at table name) (equal_from_test _ e)) ∙ table_tied table))

module _ (table : TableName) where
  below_names : (n : List ℕ) (rows : List Row) → below_all chain_cmp (at table n) (entries_of table rows) ≡ list_all (λ m. is_lt (text_cmp n m)) (names_of rows)
  below_names n [] = refl
  below_names n (row ∷ rows) = λ i. is_lt (tied_table table (text_cmp n row.chain) i) && below_names n rows i

  -- rows in order
  sorted_names : (rows : List Row) → is_sorted chain_cmp (entries_of table rows) ≡ rises text_cmp (names_of rows)
  sorted_names [] = refl
  sorted_names (row ∷ rows) = λ i. below_names row.chain rows i && sorted_names rows i

  -- the places of the table, and those of its chains that aren't built in
  abbrev in_table : ChainAt → Bool
  in_table place = table_place place.table == table_place table

  abbrev is_other : ChainAt → Bool
  is_other place = not (is_built_in table place.chain)

  abbrev others_in : List (ChainAt × List Rule) → List (ChainAt × List Rule)
  others_in es = where_key chain_cmp is_other (where_key chain_cmp in_table es)

  abbrev rows_from : List (ChainAt × List Rule) → List Row
  rows_from es = map plain (map (λ e. (e.0.chain, e.1)) es)

  entries_again : (es : List (ChainAt × List Rule)) → entries_of table (rows_from (others_in es)) ≡ others_in es
  entries_again [] = refl
  entries_again (e ∷ es) =
      elim (in_table e.0) as (λ b. in_table e.0 ≡ b → entries_of table (rows_from (where_key chain_cmp is_other (cond b (e ∷ where_key chain_cmp in_table es) (where_key chain_cmp in_table es))))
      ≡ where_key chain_cmp is_other (cond b (e ∷ where_key chain_cmp in_table es) (where_key chain_cmp in_table es))) [
        | true ↦ λ t. elim (is_other e.0) as (λ b. entries_of table (rows_from (cond b (e ∷ others_in es) (others_in es))) ≡ cond b (e ∷ others_in es) (others_in es)) [
          | true ↦ λ i. (record { table = sym (one_table_from_test e.0.table table t) i; chain = e.0.chain }, e.1) ∷ entries_again es i
          | false ↦ entries_again es
        ]
        | false ↦ λ t. entries_again es
      ] refl

  all_other : (es : List (ChainAt × List Rule)) → list_all (λ n. not (is_built_in table n)) (names_of (rows_from (where_key chain_cmp is_other es))) ≡ true
  all_other [] = refl
  all_other (e ∷ es) =
      elim (is_other e.0) as (λ b. is_other e.0 ≡ b → list_all (λ n. not (is_built_in table n)) (names_of (rows_from (cond b (e ∷ where_key chain_cmp is_other es) (where_key chain_cmp is_other es)))) ≡ true) [
        | true ↦ λ t. and_from _ _ t (all_other es)
        | false ↦ λ t. all_other es
      ] refl

  module _ (chains : Chains) where
    others_found : (q : ChainAt) → find chain_cmp q (others_in (entries chains)) ≡ cond (is_other q) (cond (in_table q) (get chains q) None) None
    others_found q =
        find-where_key chain_cmp is_other q (λ x t. ap is_other (sym (chain_exact q x t))) (where_key chain_cmp in_table (entries chains))
        ∙ ap (λ o. cond (is_other q) o None) (find-where_key chain_cmp in_table q (λ x t. ap in_table (sym (chain_exact q x t))) (entries chains)
        ∙ ap (λ o. cond (in_table q) o None) (sym (get-entries chains q)))

    other_rules : (name : List ℕ) → rules_in (map plain (other_rows chains table)) name ≡ cond (not (is_built_in table name)) (get chains (at table name)) None
    other_rules name =
        sym (find_rows table (map plain (other_rows chains table)) name)
        ∙ ap (find chain_cmp (at table name)) (entries_again (entries chains))
        ∙ others_found (at table name)
        ∙ ap (λ b. cond (not (is_built_in table name)) (cond b (get chains (at table name)) None) None) (table_tied table)

    built_in_rules : (ns : List (List ℕ)) (name : List ℕ) → rules_in (map plain (filter_map (row_at chains table) ns)) name ≡ cond (list_any (bytes_eq name) ns) (get chains (at table name)) None
    built_in_rules [] name = refl
    built_in_rules (n ∷ ns) name = by (get chains (at table n)) refl (bytes_eq name n) refl (built_in_rules ns name)
      where
        nothing : (b : Bool) (o : Option (List Rule)) → o ≡ None → cond b o None ≡ o
        nothing true o h = refl
        nothing false o h = sym h

        by : (o : Option (List Rule)) → get chains (at table n) ≡ o → (b : Bool) → bytes_eq name n ≡ b
            → rules_in (map plain (filter_map (row_at chains table) ns)) name ≡ cond (list_any (bytes_eq name) ns) (get chains (at table name)) None
            → rules_in (map plain (cons_option (option_map (λ rules. (n, rules)) o) (filter_map (row_at chains table) ns))) name ≡ cond (b || list_any (bytes_eq name) ns) (get chains (at table name)) None
        by None g true t h = h ∙ nothing _ _ (ap (λ m. get chains (at table m)) (text_test_exact name n t) ∙ g)
        by None g false t h = h
        by (Some rules) g true t h = ap (λ b. cond b (Some rules) (rules_in (map plain (filter_map (row_at chains table) ns)) name)) t ∙ sym (ap (λ m. get chains (at table m)) (text_test_exact name n t) ∙ g)
        by (Some rules) g false t h = ap (λ b. cond b (Some rules) (rules_in (map plain (filter_map (row_at chains table) ns)) name)) t ∙ h

    -- the rows have the rules of each chain
    pub rules_there : (name : List ℕ) → rules_in (map plain (built_in_rows chains table ++ other_rows chains table)) name ≡ get chains (at table name)
    rules_there name =
        ap (λ rows. rules_in rows name) (map-append plain (built_in_rows chains table) (other_rows chains table))
        ∙ rules_append (map plain (built_in_rows chains table)) (map plain (other_rows chains table)) name
        ∙ (λ i. option_or (built_in_rules (built_in_chains table) name i) (other_rules name i))
        ∙ by (is_built_in table name) (get chains (at table name))
      where
        by : (b : Bool) (o : Option (List Rule)) → option_or (cond b o None) (cond (not b) o None) ≡ o
        by true None = refl
        by true (Some rules) = refl
        by false o = refl

    first_names : (ns : List (List ℕ)) → list_all (λ n. is_some (get chains (at table n))) ns ≡ true → names_of (map plain (filter_map (row_at chains table) ns)) ≡ ns
    first_names [] h = refl
    first_names (n ∷ ns) h =
        elim (get chains (at table n)) as (λ o. is_some o ≡ true → names_of (map plain (cons_option (option_map (λ rules. (n, rules)) o) (filter_map (row_at chains table) ns))) ≡ n ∷ ns) [
          | None ↦ λ g. absurd (false≢true g)
          | Some rules ↦ λ g. ap (λ ms. n ∷ ms) (first_names ns (and_parts _ _ h).1)
        ] (and_parts _ _ h).0

    -- a table with its built-in chains has a section's rows
    pub rows_section : has_built_in chains table ≡ true → IsSection table (built_in_rows chains table) (other_rows chains table)
    rows_section h =
        let sorted = is_sorted-where_key chain_cmp is_other (where_key chain_cmp in_table (entries chains)) (is_sorted-where_key chain_cmp in_table (entries chains) (entries_sorted chains)) in
        record {
          first = first_names (built_in_chains table) h;
          behind = record {
            apart = all_other (where_key chain_cmp in_table (entries chains));
            rises = sym (sorted_names (map plain (other_rows chains table))) ∙ ap (is_sorted chain_cmp) (entries_again (entries chains)) ∙ true_from_fact _ sorted;
          };
        }
