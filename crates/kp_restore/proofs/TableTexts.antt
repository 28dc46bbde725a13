-- The texts of canonical tables are those of sections of whole tables.
use Rattle.std.proofs.Common.{◌≡◌, ◌⊎◌, ℕ, Bool, true, false, cond, not, ◌&&◌, ◌||◌, List, [], ◌∷◌, ◌++◌, map, Option, Some, None, is_some, bytes_eq, refl, sym, ap, subst, ◌∙◌, append_assoc, inl, inr}
use Rattle.std.specs.List as list
use Rattle.std.specs.List.{list_all, list_any, flat_map, AllByRecursion}
use Rattle.std.specs.Option.{option_or}
use Rattle.std.specs.FinMap.{entries, get, get-empty, same_map}
use Rattle.std.proofs.lemmas.Bool.{and_parts, and_from, false≢true, or_left}
use Rattle.std.proofs.lemmas.Grind.{flat_map-append}
use Rattle.std.proofs.lemmas.List.{append-nil, map-append}
use Rattle.std.proofs.lemmas.List.Folds.{list_any-append}
use Rattle.std.proofs.lemmas.Option.{none-some}
use Rattle.std.proofs.lemmas.Simd.{map-map}
use Rattle.kp_base.specs.Net.{same_family}
use Rattle.kp_base.specs.declared.address.Family.{Family}
use Rattle.kp_types.specs.Chains.{is_chain_name}
use Rattle.kp_types.specs.Places.{chain_cmp, family_of_table, nat_of, filter_of}
use Rattle.kp_types.specs.declared.chain.TableName.{TableName}
use Rattle.kp_types.specs.declared.chain.TableName.TheVariants.{Nat, Filter, Nat6, Filter6}
use Rattle.kp_types.specs.declared.chain.ChainAt.{ChainAt}
use Rattle.kp_types.specs.declared.rule.Rule.{Rule}
use Rattle.kp_types.proofs.ChainOrder.{chain_total, chain_exact}
use Rattle.kp_object_defs.specs.Desired.{is_empty}
use Rattle.kp_object_defs.proofs.AllOf.{all_filter}
use Rattle.kp_table_defs.specs.Ranks.{built_in_chains, has_built_in, has_chains_of, is_built_in}
use Rattle.kp_table_defs.specs.Rebuild.{Chains, TableParts}
use Rattle.kp_restore_defs.specs.RuleText.{is_canonical_rule}
use Rattle.kp_restore_defs.specs.TableText as table
use Rattle.kp_restore_defs.specs.TableText.{built_in_rows, built_in_line, commit_line, declared_line, is_canonical_chain, is_canonical_part, is_canonical_table, is_chain_of, jumps_to_declared, may_stand, other_rows, row_lines, section_lines, section_of, table_line, table_lines}
use Rattle.kp_restore.specs.Lines.{is_canonical_line, line_text}
use Rattle.kp_restore.specs.Sections as sections
use Rattle.kp_restore.specs.Sections.{declared_part, fits, is_canonical, jumps_in, lines_of, may_remove, names_of, names_stand, removed_part, rule_parts, sections_stand}
use Rattle.kp_restore.specs.Steps.{IsEnd, no_chains, start, step, with_rows, with_sections}
use Rattle.kp_restore.specs.declared.line.Line.{Line}
use Rattle.kp_restore.specs.declared.line.Line.TheVariants as line
use Rattle.kp_restore.specs.declared.section.Form.TheVariants.{Whole}
use Rattle.kp_restore.specs.declared.section.Row.{Row}
use Rattle.kp_restore.specs.declared.section.Section.{Section}
use Rattle.kp_restore.proofs.Families.{IsTableOf, nat_is_of, filter_is_of, which_table, nat_is_no_filter, filter_is_no_nat, beside}
use Rattle.kp_restore.proofs.Machine.{IsReader, tied}
use Rattle.kp_restore.proofs.Rows.{at, rules_in, distinct, found_rows, is_some_rules, one_found, same_rows, syncs_with, get_with, get_with_other}
use Rattle.kp_restore.proofs.SectionReader.{section_reader}
use Rattle.kp_restore.proofs.SectionRows.{told_as, jumps_same, owed_built_in, stand_alike, stand_distinct, stand_join, stand_split}
use Rattle.kp_restore.proofs.SectionShapes.{IsIn, both_good, both_tables, if_some, is_good, whole_has_both, whole_stand}
use Rattle.kp_restore.proofs.TableRows.{IsSection, plain, table_apart, rules_there, rows_section, every_entry, one_entry}
use Rattle.kp_restore.proofs.Tests as tests
use Rattle.kp_restore.proofs.Tests.{all_true}
use Rattle.kp_lemmas.proofs.ListFacts.{all_both, all_tested, all_weaker, filter_all, test_weaker}

-- ---- The lines of a section

rule_texts : (rows : List table.Row) → map line_text (flat_map rule_parts (map plain rows)) ≡ flat_map row_lines rows
rule_texts [] = refl
rule_texts (row ∷ rows) = map-append line_text (rule_parts (plain row)) (flat_map rule_parts (map plain rows)) ∙ (λ i. map-map line_text (line.Ruled row.0) row.1 i ++ rule_texts rows i)

none_removed : (rows : List table.Row) → flat_map removed_part (map plain rows) ≡ []
none_removed [] = refl
none_removed (row ∷ rows) = none_removed rows

names_join : (b o : List table.Row) → names_of (map plain (b ++ o)) ≡ names_of (map plain b) ++ names_of (map plain o)
names_join b o = simp map-append

section_texts : (t : TableName) (b o : List table.Row) → IsSection t b o → section_of t b o ≡ map line_text (sections.section_lines (record { table = t; rows = map plain (b ++ o) }))
section_texts t b o s =
    let ns = names_of (map plain b) in
    let ms = names_of (map plain o) in
    let rules = flat_map rule_parts (map plain (b ++ o)) in
    let declared : map (declared_part t) (names_of (map plain (b ++ o))) ≡ map line.BuiltIn ns ++ map line.Declared ms =
    ap (map (declared_part t)) (names_join b o)
    ∙ map-append (declared_part t) ns ms
    ∙ (λ i. told_as t true ns (ap (list_all (is_built_in t)) s.first ∙ owed_built_in Whole t) i ++ told_as t false ms s.behind.apart i) in
    shape
    ∙ ap (λ r. table_line t ∷ (map built_in_line ns ++ (map declared_line ms ++ (r ++ commit_line ∷ [])))) (sym (rule_texts (b ++ o)))
    ∙ sym (split ns ms rules)
    ∙ (λ i. map line_text ((line.Section t ∷ (sym declared i ++ (rules ++ sym (none_removed (b ++ o)) i))) ++ line.Commit ∷ []))
  where
    shape : section_of t b o ≡ table_line t ∷ (map built_in_line (names_of (map plain b)) ++ (map declared_line (names_of (map plain o)) ++ (flat_map row_lines (b ++ o) ++ commit_line ∷ [])))
    shape = simp (map-map, append_assoc)

    split : (ns ms : List (List ℕ)) (r : List Line) → map line_text ((line.Section t ∷ ((map line.BuiltIn ns ++ map line.Declared ms) ++ (r ++ []))) ++ line.Commit ∷ [])
        ≡ table_line t ∷ (map built_in_line ns ++ (map declared_line ms ++ (map line_text r ++ commit_line ∷ [])))
    split ns ms r = simp (map-append, map-map, append-nil, append_assoc)

some_stand : (t : TableName) (rows : List Row) → names_stand t (built_in_chains t) None (names_of rows) ≡ true → is_empty rows ≡ false
some_stand t [] h = absurd (false≢true (sym (elim t as (λ t. is_empty (built_in_chains t) ≡ false) [ Nat ↦ refl | Filter ↦ refl | Nat6 ↦ refl | Filter6 ↦ refl ]) ∙ h))
some_stand t (r ∷ rows) h = refl

or_none : (o : Option (List Rule)) → option_or o None ≡ o
or_none o = elim o as (λ o. option_or o None ≡ o) [ None ↦ refl | Some rules ↦ refl ]

all_kept : (names : List (List ℕ)) (rows : List Row) → list_all (fits Whole names) rows ≡ true → AllByRecursion (λ r. r.removed ≡ false) rows
all_kept names rows h =
    all_weaker (λ r. fits Whole names r ≡ true) (λ r. r.removed ≡ false)
    (λ r f. elim r.removed as (λ b. (not b || (may_remove Whole && is_empty r.rules)) ≡ true → b ≡ false) [ true ↦ λ e. sym e | false ↦ λ e. refl ]
    (and_parts (not r.removed || (may_remove Whole && is_empty r.rules)) (list_all (jumps_in Whole names) r.rules) f).0)
    rows (all_tested (fits Whole names) rows h)

-- ---- The table of two sections

module _ (family : Family) where
  abbrev nat : TableName
  nat = nat_of family

  abbrev filter : TableName
  filter = filter_of family

  abbrev tables : List Row → List Row → TableParts
  tables n f = with_rows filter (with_rows nat no_chains n) f

  module _ (n f : List Row) where
    get_nat : distinct (names_of n) ≡ true → (name : List ℕ) → get (tables n f).chains (at nat name) ≡ rules_in n name
    get_nat d name =
        get_with_other filter nat (λ a b. table_apart filter (at nat a) b (nat_is_no_filter family)) (with_rows nat no_chains n) f name
        ∙ get_with nat no_chains n d name ∙ ap (option_or (rules_in n name)) (get-empty chain_cmp (at nat name)) ∙ or_none (rules_in n name)

    get_filter : distinct (names_of f) ≡ true → (name : List ℕ) → get (tables n f).chains (at filter name) ≡ rules_in f name
    get_filter d name =
        get_with filter (with_rows nat no_chains n) f d name
        ∙ ap (option_or (rules_in f name)) (get_with_other nat filter (λ a b. table_apart nat (at filter a) b (filter_is_no_nat family)) no_chains n name ∙ get-empty chain_cmp (at filter name))
        ∙ or_none (rules_in f name)

    -- it has no chain of another family
    get_beside : (t : TableName) → same_family (family_of_table t) family ≡ false → (name : List ℕ) → get (tables n f).chains (at t name) ≡ None
    get_beside t h name =
        get_with_other filter t (λ a b. table_apart filter (at t a) b (beside family t filter h (filter_is_of family))) (with_rows nat no_chains n) f name
        ∙ get_with_other nat t (λ a b. table_apart nat (at t a) b (beside family t nat h (nat_is_of family))) no_chains n name
        ∙ get-empty chain_cmp (at t name)

    table_of : (q : ChainAt) (rules : List Rule) → get (tables n f).chains q ≡ Some rules → IsTableOf family q.table
    table_of q rules e =
        elim (same_family (family_of_table q.table) family) as (λ b. same_family (family_of_table q.table) family ≡ b → b ≡ true) [
          | true ↦ λ t. refl
          | false ↦ λ t. absurd (none-some rules (sym (get_beside q.table t q.chain) ∙ e))
        ] refl

  -- what sections say
  said : (n f : List Row) → is_empty n ≡ false → is_empty f ≡ false → with_sections no_chains (if_some family nat n ++ if_some family filter f) ≡ tables n f
  said n f e g = λ i. with_sections no_chains (cond (e i) [] ((record { table = nat; rows = n }) ∷ []) ++ cond (g i) [] ((record { table = filter; rows = f }) ∷ []))

  -- ---- The sections of a canonical table

  -- what a canonical table's chains are
  pub canonical_parts : (chains : Chains) → is_canonical_table family chains ≡ true
      → (has_chains_of family chains ≡ true) × (list_all (is_canonical_chain family chains) (entries chains) ≡ true) × (list_all (is_chain_of family) (entries chains) ≡ true)
  canonical_parts chains h =
      let both = and_parts (is_canonical_part family chains) (list_all (is_chain_of family) (entries chains)) h in
      let part = and_parts (has_chains_of family chains) (list_all (is_canonical_chain family chains) (list.filter (is_chain_of family) (entries chains))) both.0 in
      (part.0, ap (list_all (is_canonical_chain family chains)) (sym (filter_all (is_chain_of family) (entries chains) both.1)) ∙ part.1, both.1)

  -- the rows of a table's section
  abbrev rows_at : Chains → TableName → List Row
  rows_at chains t = map plain (built_in_rows chains t ++ other_rows chains t)

  module _ (chains : Chains) (h : is_canonical_table family chains ≡ true) (t : TableName) (there : has_built_in chains t ≡ true) where
    names_are : names_of (rows_at chains t) ≡ built_in_chains t ++ names_of (map plain (other_rows chains t))
    names_are = names_join (built_in_rows chains t) (other_rows chains t) ∙ ap (λ ns. ns ++ names_of (map plain (other_rows chains t))) (rows_section t chains there).first

    stand : names_stand t (built_in_chains t) None (names_of (rows_at chains t)) ≡ true
    stand = ap (names_stand t (built_in_chains t) None) names_are ∙ stand_join t (built_in_chains t) None (names_of (map plain (other_rows chains t))) (owed_built_in Whole t) refl (rows_section t chains there).behind

    some_rows : is_empty (rows_at chains t) ≡ false
    some_rows = some_stand t (rows_at chains t) stand

    -- what follows for a row from what its chain is
    each_row : (p : Row → Bool) → ((row : Row) → is_chain_name row.chain ≡ true → list_all (may_stand family chains t) row.rules ≡ true → row.removed ≡ false → p row ≡ true) → list_all p (rows_at chains t) ≡ true
    each_row p follows =
        all_true p (λ row. (rules_in (rows_at chains t) row.chain ≡ Some row.rules) × (row.removed ≡ false))
        (λ row f.
        let k = and_parts (is_chain_name row.chain) (list_all (may_stand family chains t) row.rules)
        (one_entry (is_canonical_chain family chains) chains (canonical_parts chains h).1 (at t row.chain) row.rules (sym (rules_there t chains row.chain) ∙ f.0)) in
        follows row k.0 k.1 f.1)
        (rows_at chains t)
        (all_both _ (λ row. row.removed ≡ false) (rows_at chains t) (found_rows (rows_at chains t) (stand_distinct Whole t (names_of (rows_at chains t)) stand)) (plain_kept (built_in_rows chains t ++ other_rows chains t)))
      where
        plain_kept : (rows : List table.Row) → AllByRecursion (λ row. row.removed ≡ false) (map plain rows)
        plain_kept [] = tt
        plain_kept (row ∷ rows) = (refl, plain_kept rows)

    is_in : IsIn family Whole t (rows_at chains t)
    is_in =
        let names = names_of (rows_at chains t) in
        let has : (c : List ℕ) → is_some (get chains (at t c)) ≡ list_any (bytes_eq c) names = λ c. sym (ap is_some (rules_there t chains c)) ∙ is_some_rules (rows_at chains t) c in
        record {
          section =
              and_from _ _ stand
              (and_from _ _ (ap not some_rows)
              (each_row (fits Whole names) (λ row n m kept. and_from _ _ (ap (λ b. not b || (may_remove Whole && is_empty row.rules)) kept)
              (test_weaker (may_stand family chains t) (jumps_in Whole names) (λ r k. sym (jumps_same chains t names has r.target) ∙ (and_parts (is_canonical_rule family r) (jumps_to_declared chains t r.target) k).1) row.rules m))));
          good_rows = each_row (is_good family) (λ row n m kept. and_from _ _ n
              (test_weaker (may_stand family chains t) (is_canonical_rule family) (λ r k. (and_parts (is_canonical_rule family r) (jumps_to_declared chains t r.target) k).0) row.rules m));
        }

  abbrev pub sections_of : Chains → List Section
  sections_of chains = if_some family nat (rows_at chains nat) ++ if_some family filter (rows_at chains filter)

  module _ (chains : Chains) (h : is_canonical_table family chains ≡ true) where
    there : (has_built_in chains nat ≡ true) × (has_built_in chains filter ≡ true)
    there = and_parts (has_built_in chains nat) (has_built_in chains filter) (canonical_parts chains h).0

    canonical_sections : is_canonical Whole family (sections_of chains) ≡ true
    canonical_sections =
        let n = is_in chains h nat there.0 in
        let f = is_in chains h filter there.1 in
        and_from _ _
        (whole_stand family (rows_at chains nat) (rows_at chains filter) (some_rows chains h nat there.0) (some_rows chains h filter there.1) n f)
        (both_good family Whole (rows_at chains nat) (rows_at chains filter) (nat_is_of family) (filter_is_of family) (λ e. n) (λ e. f))

    if_texts : (t : TableName) → has_built_in chains t ≡ true → section_lines chains t ≡ map line_text (lines_of (if_some family t (rows_at chains t)))
    if_texts t has =
        section_texts t (built_in_rows chains t) (other_rows chains t) (rows_section t chains has)
        ∙ ap (map line_text) (sym (append-nil (sections.section_lines (record { table = t; rows = rows_at chains t }))))
        ∙ ap (λ b. map line_text (lines_of (cond b [] ((record { table = t; rows = rows_at chains t }) ∷ [])))) (sym (some_rows chains h t has))

    printed : table_lines family chains ≡ map line_text (lines_of (sections_of chains))
    printed =
        let n = if_some family nat (rows_at chains nat) in
        let f = if_some family filter (rows_at chains filter) in
        (λ i. if_texts nat there.0 i ++ if_texts filter there.1 i) ∙ sym (map-append line_text (lines_of n) (lines_of f)) ∙ ap (map line_text) (sym (flat_map-append sections.section_lines n f))

    -- the chains that the sections give are those of the table
    same_at : (q : ChainAt) (b : Bool) → same_family (family_of_table q.table) family ≡ b → get (tables (rows_at chains nat) (rows_at chains filter)).chains q ≡ get chains q
    same_at q true e =
        elim (which_table family q.table e) [
          | inl is ↦
              subst (λ t. get (tables (rows_at chains nat) (rows_at chains filter)).chains (at t q.chain) ≡ get chains (at t q.chain)) (sym is)
              (get_nat (rows_at chains nat) (rows_at chains filter) (stand_distinct Whole nat (names_of (rows_at chains nat)) (stand chains h nat there.0)) q.chain ∙ rules_there nat chains q.chain)
          | inr is ↦
              subst (λ t. get (tables (rows_at chains nat) (rows_at chains filter)).chains (at t q.chain) ≡ get chains (at t q.chain)) (sym is)
              (get_filter (rows_at chains nat) (rows_at chains filter) (stand_distinct Whole filter (names_of (rows_at chains filter)) (stand chains h filter there.1)) q.chain ∙ rules_there filter chains q.chain)
        ]
    same_at q false e = get_beside (rows_at chains nat) (rows_at chains filter) q.table e q.chain ∙ sym (none (get chains q) refl)
      where
        none : (o : Option (List Rule)) → get chains q ≡ o → get chains q ≡ None
        none None g = g
        none (Some rules) g = absurd (false≢true (sym e ∙ one_entry (is_chain_of family) chains (canonical_parts chains h).2 q rules g))

    to_sections : (ss : List Section) × (is_canonical Whole family ss ≡ true) × ((with_sections no_chains ss).chains ≡ chains)
    to_sections = (
      sections_of chains,
      canonical_sections,
      ap (λ (d : TableParts). d.chains) (said (rows_at chains nat) (rows_at chains filter) (some_rows chains h nat there.0) (some_rows chains h filter there.1))
          ∙ same_map chain_total chain_exact _ _ (λ q. same_at q (same_family (family_of_table q.table) family) refl),
    )

  -- ---- The table of canonical sections

  -- a section of a table that has its rules
  module _ (chains : Chains) (t : TableName) (rows : List Row) (i : IsIn family Whole t rows) (has : (name : List ℕ) → get chains (at t name) ≡ rules_in rows name) where
    stands : (names_stand t (built_in_chains t) None (names_of rows) ≡ true) × (list_all (fits Whole (names_of rows)) rows ≡ true)
    stands =
        let p = and_parts (names_stand t (built_in_chains t) None (names_of rows)) (not (is_empty rows) && list_all (fits Whole (names_of rows)) rows) i.section in
        (p.0, (and_parts (not (is_empty rows)) (list_all (fits Whole (names_of rows)) rows) p.1).1)

    named : (c : List ℕ) → is_some (get chains (at t c)) ≡ list_any (bytes_eq c) (names_of rows)
    named c = ap is_some (has c) ∙ is_some_rules rows c

    built_in_here : has_built_in chains t ≡ true
    built_in_here =
        let s = stand_split t (built_in_chains t) None (names_of rows) stands.0 in
        test_weaker (is_built_in t) (λ n. is_some (get chains (at t n)))
        (λ n b. named n ∙ ap (list_any (bytes_eq n)) s.1 ∙ list_any-append (bytes_eq n) (built_in_chains t) s.0 ∙ or_left (is_built_in t n) (list_any (bytes_eq n) s.0) b)
        (built_in_chains t) (owed_built_in Whole t)

    rows_canonical : list_all (λ row. is_canonical_chain family chains (at t row.chain, row.rules)) rows ≡ true
    rows_canonical =
        tests.all_both (is_good family) (fits Whole (names_of rows)) (λ row. is_canonical_chain family chains (at t row.chain, row.rules))
        (λ row g f.
        let k = and_parts (is_chain_name row.chain) (list_all (is_canonical_rule family) row.rules) g in
        and_from _ _ k.0
        (tests.all_both (is_canonical_rule family) (jumps_in Whole (names_of rows)) (may_stand family chains t) (λ r c j. and_from _ _ c (jumps_same chains t (names_of rows) named r.target ∙ j)) row.rules k.1
        (and_parts (not row.removed || (may_remove Whole && is_empty row.rules)) (list_all (jumps_in Whole (names_of rows)) row.rules) f).1))
        rows i.good_rows stands.1

    entry_here : (name : List ℕ) (rules : List Rule) → get chains (at t name) ≡ Some rules → is_canonical_chain family chains (at t name, rules) ≡ true
    entry_here name rules f = one_found (λ n r. is_canonical_chain family chains (at t n, r)) rows rows_canonical name rules (sym (has name) ∙ f)

    -- they are the rows of the table
    again : is_canonical_table family chains ≡ true → has_built_in chains t ≡ true → rows ≡ rows_at chains t
    again c there =
        let o = is_in chains c t there in
        let found : (name : List ℕ) → rules_in rows name ≡ rules_in (rows_at chains t) name = λ name. sym (has name) ∙ sym (rules_there t chains name) in
        let others = and_parts (names_stand t (built_in_chains t) None (names_of (rows_at chains t))) (not (is_empty (rows_at chains t)) && list_all (fits Whole (names_of (rows_at chains t))) (rows_at chains t)) o.section in
        let names = stand_alike Whole t (names_of rows) (names_of (rows_at chains t)) stands.0 others.0
        (λ q. sym (is_some_rules rows q) ∙ ap is_some (found q) ∙ is_some_rules (rows_at chains t) q) in
        same_rows rows (rows_at chains t) names (stand_distinct Whole t (names_of rows) stands.0) (all_kept (names_of rows) rows stands.1)
        (all_kept (names_of (rows_at chains t)) (rows_at chains t) (and_parts (not (is_empty (rows_at chains t))) (list_all (fits Whole (names_of (rows_at chains t))) (rows_at chains t)) others.1).1) found

  module _ (n f : List Row) (i : IsIn family Whole nat n) (j : IsIn family Whole filter f) where
    abbrev both : Chains
    both = (tables n f).chains

    alone : (t : TableName) (rows : List Row) → IsIn family Whole t rows → distinct (names_of rows) ≡ true
    alone t rows k = stand_distinct Whole t (names_of rows) (and_parts (names_stand t (built_in_chains t) None (names_of rows)) _ k.section).0

    has : ((name : List ℕ) → get (tables n f).chains (at nat name) ≡ rules_in n name) × ((name : List ℕ) → get (tables n f).chains (at filter name) ≡ rules_in f name)
    has = (get_nat n f (alone nat n i), get_filter n f (alone filter f j))

    entry_canonical : (q : ChainAt) (rules : List Rule) → get both q ≡ Some rules → (q.table ≡ nat) ⊎ (q.table ≡ filter) → is_canonical_chain family both (q, rules) ≡ true
    entry_canonical q rules g (inl e) =
        subst (λ t. get both (at t q.chain) ≡ Some rules → is_canonical_chain family both (at t q.chain, rules) ≡ true) (sym e) (entry_here both nat n i has.0 q.chain rules) g
    entry_canonical q rules g (inr e) =
        subst (λ t. get both (at t q.chain) ≡ Some rules → is_canonical_chain family both (at t q.chain, rules) ≡ true) (sym e) (entry_here both filter f j has.1 q.chain rules) g

    tables_canonical : is_canonical_table family (tables n f).chains ≡ true
    tables_canonical =
        let there = and_from _ _ (built_in_here both nat n i has.0) (built_in_here both filter f j has.1) in
        let bounded = every_entry (is_canonical_chain family both) both (λ q rules g. entry_canonical q rules g (which_table family q.table (table_of n f q rules g))) in
        and_from _ _ (and_from _ _ there (all_filter (is_canonical_chain family both) (is_chain_of family) (entries both) bounded)) (every_entry (is_chain_of family) both (table_of n f))

  from_sections : (ss : List Section) → is_canonical Whole family ss ≡ true
      → (is_canonical_table family (with_sections no_chains ss).chains ≡ true) × (table_lines family (with_sections no_chains ss).chains ≡ map line_text (lines_of ss))
  from_sections ss c =
      let (n, f, is, some_n, some_f) = both_tables family Whole ss c in
      let some = whole_has_both family n f (ap (sections_stand Whole None) (sym is) ∙ (and_parts (sections_stand Whole None ss) (list_all (is_canonical_line family) (lines_of ss)) c).0) in
      let i = some_n some.0 in
      let j = some_f some.1 in
      let T = (tables n f).chains in
      let canonical = tables_canonical n f i j in
      let made : (with_sections no_chains ss).chains ≡ T = ap (λ (d : TableParts). d.chains) (ap (with_sections no_chains) is ∙ said n f some.0 some.1) in
      let same : ss ≡ sections_of T =
      is
      ∙ (λ k. if_some family nat (again T nat n i (has n f i j).0 canonical (there T canonical).0 k) ++ if_some family filter (again T filter f j (has n f i j).1 canonical (there T canonical).1 k)) in
      (ap (is_canonical_table family) made ∙ canonical, ap (table_lines family) made ∙ printed T canonical ∙ ap (λ l. map line_text (lines_of l)) (sym same))

  -- ---- The reader of tables

  pub table_reader : IsReader (step Whole) start (IsEnd Whole) (λ s. (with_sections no_chains s.done).chains) line_text (is_canonical_line family) (λ chains. is_canonical_table family chains ≡ true) (table_lines family)
  table_reader = tied (section_reader Whole family) (λ chains. is_canonical_table family chains ≡ true) (table_lines family) (λ ss. (with_sections no_chains ss).chains) from_sections to_sections

-- the table of sections counts no batch
pub no_syncs : (ss : List Section) (d : TableParts) → (with_sections d ss).syncs ≡ d.syncs
no_syncs [] d = refl
no_syncs (s ∷ ss) d = no_syncs ss (with_rows s.table d s.rows) ∙ syncs_with s.table d s.rows
