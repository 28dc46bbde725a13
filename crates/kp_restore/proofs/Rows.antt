-- Rows of one table: where no name stands twice, what is looked up is the row's rules.
use Rattle.std.proofs.Common.{◌≡◌, ℕ, Bool, true, false, cond, not, ◌&&◌, ◌||◌, List, [], ◌∷◌, ◌++◌, map, Option, Some, None, is_some, bytes_eq, refl, sym, ap, ◌∙◌, option_map}
use Rattle.std.specs.List.{list_all, list_any, filter_map, cons_option, AllByRecursion}
use Rattle.std.specs.Option.{option_or}
use Rattle.std.specs.Ordering.{eq_by_cmp, is_eq, nat_cmp, ordering_then}
use Rattle.std.specs.FinMap.{get, get-insert, find}
use Rattle.std.specs.Cmp.{nat_cmp_total}
use Rattle.std.proofs.lemmas.Bool.{and_parts, false_from_ne_true, false≢true, not-true}
use Rattle.std.proofs.lemmas.Cmp.{tied_itself}
use Rattle.std.proofs.lemmas.Map.Text.{is_eq-slice_cmp}
use Rattle.std.proofs.lemmas.Option.{same_Some}
use Rattle.std.specs.Cmp.Lexicographic.{nat_list_eq_equiv}
use Rattle.std.specs.declared.cmp.Ordering.{Ordering}
use Rattle.kp_lemmas.proofs.ListFacts.{all_both, all_weaker}
use Rattle.kp_lemmas.proofs.Options.{none_of}
use Rattle.kp_base.specs.Keys.{text_cmp}
use Rattle.kp_types.specs.Places.{chain_cmp, table_place}
use Rattle.kp_types.specs.declared.chain.TableName.{TableName}
use Rattle.kp_types.specs.declared.chain.ChainAt.{ChainAt}
use Rattle.kp_types.specs.declared.rule.Rule.{Rule}
use Rattle.kp_types.proofs.ChainOrder.{chain_total}
use Rattle.kp_table_defs.specs.Rebuild.{TableParts}
use Rattle.kp_restore.specs.Sections.{names_of}
use Rattle.kp_restore.specs.Steps.{put, with_rows}
use Rattle.kp_restore.specs.declared.section.Row.{Row}
use Rattle.kp_base.proofs.SameParts.{text_test_exact}

-- the place of a chain
abbrev pub at : TableName → List ℕ → ChainAt
at table name = record { table = table; chain = name }

-- rows as entries of a table
abbrev pub entries_of : TableName → List Row → List (ChainAt × List Rule)
entries_of table rows = map (λ row. (at table row.chain, row.rules)) rows

-- the rules of a chain among rows
abbrev pub rules_in : List Row → List ℕ → Option (List Rule)
rules_in [] name = None
rules_in (row ∷ rows) name = cond (bytes_eq name row.chain) (Some row.rules) (rules_in rows name)

-- no name stands twice
abbrev pub distinct : List (List ℕ) → Bool
distinct [] = true
distinct (n ∷ ns) = not (list_any (bytes_eq n) ns) && distinct ns

-- ---- Keys

pub tied_table : (t : TableName) (o : Ordering) → ordering_then (nat_cmp (table_place t) (table_place t)) o ≡ o
tied_table t o = ap (λ c. ordering_then c o) (tied_itself nat_cmp_total (table_place t))

-- two chains of one table
pub tie : (table : TableName) (a b : List ℕ) → eq_by_cmp chain_cmp (at table a) (at table b) ≡ bytes_eq a b
tie table a b = ap is_eq (tied_table table (text_cmp a b)) ∙ is_eq-slice_cmp a b

pub find_rows : (table : TableName) (rows : List Row) (name : List ℕ) → find chain_cmp (at table name) (entries_of table rows) ≡ rules_in rows name
find_rows table [] name = refl
find_rows table (row ∷ rows) name = λ i. cond (tie table name row.chain i) (Some row.rules) (find_rows table rows name i)

-- ---- Look-ups

pub is_some_rules : (rows : List Row) (name : List ℕ) → is_some (rules_in rows name) ≡ list_any (bytes_eq name) (names_of rows)
is_some_rules [] name = refl
is_some_rules (row ∷ rows) name =
    elim (bytes_eq name row.chain) as (λ b. is_some (cond b (Some row.rules) (rules_in rows name)) ≡ (b || list_any (bytes_eq name) (names_of rows))) [ true ↦ refl | false ↦ is_some_rules rows name ]

pub no_rules : (rows : List Row) (name : List ℕ) → list_any (bytes_eq name) (names_of rows) ≡ false → rules_in rows name ≡ None
no_rules rows name h = none_of (rules_in rows name) (is_some_rules rows name ∙ h)

pub rules_append : (rows more : List Row) (name : List ℕ) → rules_in (rows ++ more) name ≡ option_or (rules_in rows name) (rules_in more name)
rules_append [] more name = refl
rules_append (row ∷ rows) more name =
    elim (bytes_eq name row.chain) as (λ b. cond b (Some row.rules) (rules_in (rows ++ more) name) ≡ option_or (cond b (Some row.rules) (rules_in rows name)) (rules_in more name)) [ true ↦ refl | false ↦ rules_append rows more name ]

-- each row is found
pub found_rows : (rows : List Row) → distinct (names_of rows) ≡ true → AllByRecursion (λ s. rules_in rows s.chain ≡ Some s.rules) rows
found_rows [] d = tt
found_rows (row ∷ rows) d =
    let p = and_parts _ _ d in (
      ap (λ b. cond b (Some row.rules) (rules_in rows row.chain)) (nat_list_eq_equiv.refl row.chain),
      all_weaker (λ s. rules_in rows s.chain ≡ Some s.rules) (λ s. rules_in (row ∷ rows) s.chain ≡ Some s.rules)
          (λ s f. ap (λ b. cond b (Some row.rules) (rules_in rows s.chain)) (other s (not-true _ p.0) f) ∙ f) rows (found_rows rows p.1),
    )
  where
    other : (s : Row) → list_any (bytes_eq row.chain) (names_of rows) ≡ false → rules_in rows s.chain ≡ Some s.rules → bytes_eq s.chain row.chain ≡ false
    other s h f =
        false_from_ne_true (bytes_eq s.chain row.chain)
        (λ e. false≢true (sym h ∙ ap (λ n. list_any (bytes_eq n) (names_of rows)) (sym (text_test_exact s.chain row.chain e)) ∙ sym (is_some_rules rows s.chain) ∙ ap is_some f))

-- rows are made of their names and of what is found
abbrev row_by : (List ℕ → Option (List Rule)) → List ℕ → Option Row
row_by g n = option_map (λ rules. record { chain = n; rules = rules; removed = false }) (g n)

rows_by : (g : List ℕ → Option (List Rule)) (rows : List Row) → AllByRecursion (λ s. (g s.chain ≡ Some s.rules) × (s.removed ≡ false)) rows → filter_map (row_by g) (names_of rows) ≡ rows
rows_by g [] a = refl
rows_by g (row ∷ rows) a = λ i. cons_option (option_map (λ rules. record { chain = row.chain; rules = rules; removed = sym a.0.1 i }) (a.0.0 i)) (rows_by g rows a.1 i)

-- so rows of the same names in which the same is found are the same
pub same_rows : (rows others : List Row) → names_of rows ≡ names_of others → distinct (names_of rows) ≡ true → AllByRecursion (λ s. s.removed ≡ false) rows → AllByRecursion (λ s. s.removed ≡ false) others
    → ((name : List ℕ) → rules_in rows name ≡ rules_in others name) → rows ≡ others
same_rows rows others names d kept also same =
    let all = all_weaker (λ s. rules_in others s.chain ≡ Some s.rules) (λ s. rules_in rows s.chain ≡ Some s.rules) (λ s f. same s.chain ∙ f) others (found_rows others (sym (ap distinct names) ∙ d)) in
    sym (rows_by (rules_in rows) rows (all_both _ (λ s. s.removed ≡ false) rows (found_rows rows d) kept))
    ∙ ap (filter_map (row_by (rules_in rows))) names
    ∙ rows_by (rules_in rows) others (all_both _ (λ s. s.removed ≡ false) others all also)

pub one_found : (p : List ℕ → List Rule → Bool) (rows : List Row) → list_all (λ s. p s.chain s.rules) rows ≡ true → (name : List ℕ) (rules : List Rule) → rules_in rows name ≡ Some rules → p name rules ≡ true
one_found p [] h name rules e = absurd (cc)
one_found p (row ∷ rows) h name rules e =
    elim (bytes_eq name row.chain) as (λ b. bytes_eq name row.chain ≡ b → cond b (Some row.rules) (rules_in rows name) ≡ Some rules → p name rules ≡ true) [
      | true ↦ λ t f. (λ i. p (text_test_exact name row.chain t i) (sym (same_Some row.rules rules f) i)) ∙ (and_parts _ _ h).0
      | false ↦ λ t f. one_found p rows (and_parts _ _ h).1 name rules f
    ] refl e

-- ---- Tables with rows

pub syncs_with : (table : TableName) (t : TableParts) (rows : List Row) → (with_rows table t rows).syncs ≡ t.syncs
syncs_with table t [] = refl
syncs_with table t (row ∷ rows) = syncs_with table (put t table row.chain row.rules) rows

pub get_put : (t : TableParts) (table : TableName) (name : List ℕ) (rules : List Rule) (q : List ℕ) → get (put t table name rules).chains (at table q) ≡ cond (bytes_eq q name) (Some rules) (get t.chains (at table q))
get_put t table name rules q = get-insert chain_total t.chains (at table name) rules (at table q) ∙ ap (λ b. cond b (Some rules) (get t.chains (at table q))) (tie table q name)

-- the rules behind which none of the name's stand
pub get_with : (table : TableName) (t : TableParts) (rows : List Row) → distinct (names_of rows) ≡ true → (q : List ℕ) → get (with_rows table t rows).chains (at table q) ≡ option_or (rules_in rows q) (get t.chains (at table q))
get_with table t [] h q = refl
get_with table t (row ∷ rows) h q =
    let p = and_parts _ _ h in
    get_with table (put t table row.chain row.rules) rows p.1 q
    ∙ ap (option_or (rules_in rows q)) (get_put t table row.chain row.rules q)
    ∙ elim (bytes_eq q row.chain) as (λ b. bytes_eq q row.chain ≡ b → option_or (rules_in rows q) (cond b (Some row.rules) (get t.chains (at table q))) ≡ option_or (cond b (Some row.rules) (rules_in rows q)) (get t.chains (at table q))) [
      | true ↦ λ e. ap (λ o. option_or o (Some row.rules)) (no_rules rows q (ap (λ n. list_any (bytes_eq n) (names_of rows)) (text_test_exact q row.chain e) ∙ not-true _ p.0))
      | false ↦ λ e. refl
    ] refl

-- chains of other tables
pub get_with_other : (table other : TableName) → ((a b : List ℕ) → eq_by_cmp chain_cmp (at other a) (at table b) ≡ false) → (t : TableParts) (rows : List Row) (q : List ℕ) → get (with_rows table t rows).chains (at other q) ≡ get t.chains (at other q)
get_with_other table other h t [] q = refl
get_with_other table other h t (row ∷ rows) q =
    get_with_other table other h (put t table row.chain row.rules) rows q
    ∙ get-insert chain_total t.chains (at table row.chain) row.rules (at other q)
    ∙ ap (λ b. cond b (Some row.rules) (get t.chains (at other q))) (h q row.chain)
