-- The texts of canonical batches are those of sections of changes.
use Rattle.std.proofs.Common.{◌≡◌, ℕ, Bool, true, false, cond, not, ◌&&◌, ◌||◌, List, [], ◌∷◌, ◌++◌, map, bytes_eq, None, refl, sym, ap, ◌∙◌, append_assoc}
use Rattle.std.specs.List.{list_all, list_any, flat_map, AllByRecursion}
use Rattle.std.specs.Ordering.{is_lt}
use Rattle.std.proofs.lemmas.Bool.{and_parts, and_from, or_right}
use Rattle.std.proofs.lemmas.Grind.{flat_map-append}
use Rattle.std.proofs.lemmas.List.{append-nil, map-append}
use Rattle.std.proofs.lemmas.List.Folds.{list_all-map}
use Rattle.std.proofs.lemmas.Simd.{map-map}
use Rattle.kp_base.specs.Keys.{text_cmp}
use Rattle.kp_base.specs.declared.address.Family.{Family}
use Rattle.kp_types.specs.Places.{nat_of, filter_of}
use Rattle.kp_types.specs.declared.chain.TableName.{TableName}
use Rattle.kp_types.specs.declared.rule.Edit.{Edit}
use Rattle.kp_object_defs.specs.Desired.{is_empty}
use Rattle.kp_object_defs.specs.Order.{distinct_in_order, rises}
use Rattle.kp_table_defs.specs.Ranks.{is_built_in}
use Rattle.kp_restore_defs.specs.RuleText.{rule_line}
use Rattle.kp_restore_defs.specs.TableText.{table_line, declared_line, commit_line}
use Rattle.kp_restore_defs.specs.BatchText.{place_of, written_lines, removing_lines, edits_in, edits_section, section_if_edited, is_canonical_batch, batch_lines, BatchTextsDiffer}
use Rattle.kp_restore.specs.Lines.{is_canonical_line, line_text}
use Rattle.kp_restore.specs.Sections as forms
use Rattle.kp_restore.specs.Sections.{is_canonical, lines_of, names_of, names_stand, removed_part, rule_parts, section_lines}
use Rattle.kp_restore.specs.Steps.{IsEnd, edits_in_sections, edits_of, removed, step, start, written}
use Rattle.kp_restore.specs.declared.line.Line.{Line}
use Rattle.kp_restore.specs.declared.line.Line.TheVariants as line
use Rattle.kp_restore.specs.declared.section.Form.TheVariants.{Changes}
use Rattle.kp_restore.specs.declared.section.Row.{Row}
use Rattle.kp_restore.specs.declared.section.Section.{Section}
use Rattle.kp_restore.proofs.BatchEdits.{all_canonical, both_parts, canonical_batch, filter_part, nat_part, part_of}
use Rattle.kp_restore.proofs.BatchRows.{IsBelow, IsRows, edits_part, fits, remove_of, rows_for, write_of}
use Rattle.kp_restore.proofs.Families.{nat_is_of, filter_is_of}
use Rattle.kp_restore.proofs.Machine.{IsReader, same_value, tied}
use Rattle.kp_restore.proofs.Pairs.{EachPair}
use Rattle.kp_restore.proofs.SectionReader.{section_reader}
use Rattle.kp_restore.proofs.SectionRows.{told_as, in_place, others_stand, same_names, stand_join}
use Rattle.kp_restore.proofs.SectionShapes.{IsIfSome, IsIn, both_good, both_tables, changes_stand, if_some, is_good}
use Rattle.kp_restore.proofs.Tests.{all_true, no_items, some_behind}
use Rattle.kp_lemmas.proofs.ListFacts.{all_both, all_tested, all_weaker, test_always}

-- ---- The names that a section declares

rows_rise : (rows : List Row) → rises text_cmp (names_of rows) ≡ true → EachPair IsBelow rows
rows_rise [] h = tt
rows_rise (r ∷ rows) h =
    let k = and_parts _ _ h in
    (all_tested (λ s. is_lt (text_cmp r.chain s.chain)) rows (sym (list_all-map (λ m. is_lt (text_cmp r.chain m)) (λ (s : Row). s.chain) rows) ∙ k.0), rows_rise rows k.1)

names_rise : (rows : List Row) → EachPair IsBelow rows → rises text_cmp (names_of rows) ≡ true
names_rise [] p = refl
names_rise (r ∷ rows) p =
    and_from _ _ (list_all-map (λ m. is_lt (text_cmp r.chain m)) (λ (s : Row). s.chain) rows ∙ all_true (λ s. is_lt (text_cmp r.chain s.chain)) (IsBelow r) (λ s l. l) rows p.0) (names_rise rows p.1)

any_insert : {A B : Type 0} (p : B → Bool) (f : A → B) (xs ys : List A) (y : A) → list_any p (map f (xs ++ y ∷ ys)) ≡ (p (f y) || list_any p (map f (xs ++ ys)))
any_insert p f [] ys y = refl
any_insert p f (x ∷ xs) ys y =
    ap (λ b. p (f x) || b) (any_insert p f xs ys y)
    ∙ elim (p (f x)) as (λ b. (b || (p (f y) || list_any p (map f (xs ++ ys)))) ≡ (p (f y) || (b || list_any p (map f (xs ++ ys))))) [ true ↦ sym (or_right (p (f y)) true refl) | false ↦ refl ]

-- the chains of edits are those of their rows
edited : (t : TableName) (q : List ℕ) (rows : List Row) → list_any (bytes_eq q) (map (λ e. (place_of e).chain) (edits_of t rows)) ≡ list_any (bytes_eq q) (names_of rows)
edited t q [] = refl
edited t q (r ∷ rows) =
    let W = flat_map (written t) rows in
    let X = flat_map (removed t) rows in
    let name : Edit → List ℕ = λ e. (place_of e).chain in
    elim r.removed as (λ b. list_any (bytes_eq q) (map name ((cond b [] (write_of t r ∷ []) ++ W) ++ (cond b (remove_of t r ∷ []) [] ++ X))) ≡ (bytes_eq q r.chain || list_any (bytes_eq q) (map name (W ++ X)))) [
      | true ↦ any_insert (bytes_eq q) name W X (remove_of t r)
      | false ↦ refl
    ]
    ∙ ap (λ b. bytes_eq q r.chain || b) (edited t q rows)

names_again : (t : TableName) (rows : List Row) → EachPair IsBelow rows → distinct_in_order text_cmp (map (λ e. (place_of e).chain) (edits_of t rows)) ≡ names_of rows
names_again t rows p =
    same_names (map (λ e. (place_of e).chain) (edits_of t rows)) (names_of rows) (λ q. edited t q rows)
    ∙ in_place (names_of rows) (names_rise rows p)

-- ---- The lines of a section

module _ (family : Family) (t : TableName) where
  abbrev fit : Row → Type 0
  fit r = (fits t r ≡ true) × (is_good family r ≡ true)

  lines_of_writes : (rows : List Row) → AllByRecursion fit rows → flat_map written_lines (flat_map (written t) rows) ≡ map line_text (flat_map rule_parts rows)
  lines_of_writes [] a = refl
  lines_of_writes (r ∷ rows) a =
      by r.removed (and_parts (not (is_built_in t r.chain)) (not r.removed || is_empty r.rules) a.0.0).1 (lines_of_writes rows a.1)
      ∙ ap (λ l. l ++ map line_text (flat_map rule_parts rows)) (sym (map-map line_text (line.Ruled r.chain) r.rules))
      ∙ sym (map-append line_text (rule_parts r) (flat_map rule_parts rows))
    where
      by : (b : Bool) → (not b || is_empty r.rules) ≡ true → flat_map written_lines (flat_map (written t) rows) ≡ map line_text (flat_map rule_parts rows)
          → flat_map written_lines (cond b [] (write_of t r ∷ []) ++ flat_map (written t) rows) ≡ map (rule_line r.chain) r.rules ++ map line_text (flat_map rule_parts rows)
      by true clear rest = rest ∙ ap (λ l. map (rule_line r.chain) l ++ map line_text (flat_map rule_parts rows)) (sym (no_items r.rules clear))
      by false clear rest = ap (λ l. map (rule_line r.chain) r.rules ++ l) rest

  lines_of_removes : (rows : List Row) → flat_map removing_lines (flat_map (removed t) rows) ≡ map line_text (flat_map removed_part rows)
  lines_of_removes [] = refl
  lines_of_removes (r ∷ rows) =
      elim r.removed as (λ b. flat_map removing_lines (cond b (remove_of t r ∷ []) [] ++ flat_map (removed t) rows) ≡ map line_text (cond b (line.Removed r.chain ∷ []) [] ++ flat_map removed_part rows)) [
        | true ↦ ap (λ l. line_text (line.Removed r.chain) ∷ l) (lines_of_removes rows)
        | false ↦ lines_of_removes rows
      ]

  no_writes : (rows : List Row) → flat_map written_lines (flat_map (removed t) rows) ≡ []
  no_writes [] = refl
  no_writes (r ∷ rows) = elim r.removed as (λ b. flat_map written_lines (cond b (remove_of t r ∷ []) [] ++ flat_map (removed t) rows) ≡ []) [ true ↦ no_writes rows | false ↦ no_writes rows ]

  no_removes : (rows : List Row) → flat_map removing_lines (flat_map (written t) rows) ≡ []
  no_removes [] = refl
  no_removes (r ∷ rows) = elim r.removed as (λ b. flat_map removing_lines (cond b [] (write_of t r ∷ []) ++ flat_map (written t) rows) ≡ []) [ true ↦ no_removes rows | false ↦ no_removes rows ]

  no_built_in : (rows : List Row) → AllByRecursion fit rows → list_all (λ n. not (is_built_in t n)) (names_of rows) ≡ true
  no_built_in rows a =
      list_all-map (λ n. not (is_built_in t n)) (λ (r : Row). r.chain) rows
      ∙ all_true (λ r. not (is_built_in t r.chain)) fit (λ r k. (and_parts (not (is_built_in t r.chain)) (not r.removed || is_empty r.rules) k.0).0) rows a

  section_printed : (rows : List Row) → IsRows family t rows → edits_section t (edits_of t rows) ≡ map line_text (section_lines (record { table = t; rows = rows }))
  section_printed rows i =
      let W = flat_map (written t) rows in
      let X = flat_map (removed t) rows in
      shape (edits_of t rows)
      ∙ (λ j. table_line t ∷ (map declared_line (names_again t rows i.rise j) ++ (flat_map-append written_lines W X j ++ (flat_map-append removing_lines W X j ++ commit_line ∷ []))))
      ∙ (λ j. table_line t ∷ (map declared_line (names_of rows) ++ ((lines_of_writes rows i.fit j ++ no_writes rows j) ++ ((no_removes rows j ++ lines_of_removes rows j) ++ commit_line ∷ []))))
      ∙ sym (ap (λ d. map line_text ((line.Section t ∷ (d ++ (flat_map rule_parts rows ++ flat_map removed_part rows))) ++ line.Commit ∷ [])) (told_as t false (names_of rows) (no_built_in rows i.fit)) ∙ split (names_of rows) (flat_map rule_parts rows) (flat_map removed_part rows))
    where
      shape : (es : List Edit) → edits_section t es ≡ table_line t ∷ (map declared_line (distinct_in_order text_cmp (map (λ e. (place_of e).chain) es)) ++ (flat_map written_lines es ++ (flat_map removing_lines es ++ commit_line ∷ [])))
      shape es = simp append_assoc

      split : (ns : List (List ℕ)) (b c : List Line) → map line_text ((line.Section t ∷ (map line.Declared ns ++ (b ++ c))) ++ line.Commit ∷ []) ≡ table_line t ∷ (map declared_line ns ++ ((map line_text b ++ []) ++ (map line_text c ++ commit_line ∷ [])))
      split ns b c = simp (map-append, map-map, append-nil, append_assoc)

  if_printed : (rows : List Row) → IsRows family t rows → section_if_edited t (edits_of t rows) ≡ map line_text (lines_of (if_some family t rows))
  if_printed [] i = refl
  if_printed (r ∷ rows) i =
      let some = elim r.removed as (λ b. is_empty ((cond b [] (write_of t r ∷ []) ++ flat_map (written t) rows) ++ (cond b (remove_of t r ∷ []) [] ++ flat_map (removed t) rows)) ≡ false) [
        | true ↦ some_behind (flat_map (written t) rows) (remove_of t r) (flat_map (removed t) rows)
        | false ↦ refl
      ] in
      ap (λ b. cond b [] (edits_section t (edits_of t (r ∷ rows)))) some
      ∙ section_printed (r ∷ rows) i
      ∙ ap (map line_text) (sym (append-nil (section_lines (record { table = t; rows = r ∷ rows }))))

-- ---- Rows of a section of changes

module _ (family : Family) (t : TableName) where
  rows_in : (rows : List Row) → IsIn family Changes t rows → IsRows family t rows
  rows_in rows i =
      let p = and_parts (names_stand t [] None (names_of rows)) (not (is_empty rows) && list_all (forms.fits Changes (names_of rows)) rows) i.section in
      let q = and_parts (not (is_empty rows)) (list_all (forms.fits Changes (names_of rows)) rows) p.1 in
      let o = others_stand t None (names_of rows) p.0 in
      let apart = all_tested (λ r. not (is_built_in t r.chain)) rows (sym (list_all-map (λ n. not (is_built_in t n)) (λ (r : Row). r.chain) rows) ∙ o.apart) in
      let bare = all_weaker _ (λ r. (not r.removed || is_empty r.rules) ≡ true) (λ r l. (and_parts (not r.removed || is_empty r.rules) _ l).0) rows (all_tested (forms.fits Changes (names_of rows)) rows q.1) in
      record {
        rise = rows_rise rows o.rises;
        fit = all_both (λ r. fits t r ≡ true) (λ r. is_good family r ≡ true) rows
            (all_weaker (λ r. (not (is_built_in t r.chain) ≡ true) × ((not r.removed || is_empty r.rules) ≡ true)) (λ r. fits t r ≡ true) (λ r k. and_from _ _ k.0 k.1) rows (all_both _ _ rows apart bare))
            (all_tested (is_good family) rows i.good_rows);
      }

  in_rows : (rows : List Row) → IsRows family t rows → IsIfSome family Changes t rows
  in_rows rows i some =
      let each : (p : Row → Bool) → ((r : Row) → fit family t r → p r ≡ true) → list_all p rows ≡ true = λ p f. all_true p (fit family t) f rows i.fit in
      record {
        section =
            and_from _ _
            (stand_join t [] None (names_of rows) refl refl (record {
              apart = no_built_in family t rows i.fit;
              rises = names_rise rows i.rise;
            }))
            (and_from _ _ (ap not some)
            (each (forms.fits Changes (names_of rows)) (λ r k. and_from _ _ (and_parts (not (is_built_in t r.chain)) (not r.removed || is_empty r.rules) k.0).1 (test_always (λ rule. true) (λ rule. refl) r.rules))));
        good_rows = each (is_good family) (λ r k. k.1);
      }

  if_rows : (rows : List Row) → IsIfSome family Changes t rows → IsRows family t rows
  if_rows [] i = record { rise = tt; fit = tt }
  if_rows (r ∷ rows) i = rows_in (r ∷ rows) (i refl)

  edits_if : (rows : List Row) → edits_in_sections (if_some family t rows) ≡ edits_of t rows
  edits_if [] = refl
  edits_if (r ∷ rows) = append-nil (edits_of t (r ∷ rows))

-- ---- Edits and sections

module _ (family : Family) where
  abbrev nat : TableName
  nat = nat_of family

  abbrev filter : TableName
  filter = filter_of family

  edits_both : (n f : List Row) → edits_in_sections (if_some family nat n ++ if_some family filter f) ≡ edits_of nat n ++ edits_of filter f
  edits_both n f =
      flat_map-append (λ s. edits_of s.table s.rows) (if_some family nat n) (if_some family filter f)
      ∙ (λ i. edits_if family nat n i ++ edits_if family filter f i)

  -- canonical sections have a canonical batch, with their lines
  from_sections : (ss : List Section) → is_canonical Changes family ss ≡ true
      → (is_canonical_batch family (edits_in_sections ss) ≡ true) × (batch_lines family (edits_in_sections ss) ≡ map line_text (lines_of ss))
  from_sections ss c =
      let (n, f, is, some_n, some_f) = both_tables family Changes ss c in
      let i = if_rows family nat n some_n in
      let j = if_rows family filter f some_f in
      let p = edits_part nat family (nat_is_of family) n i in
      let q = edits_part filter family (filter_is_of family) f j in
      let edits : edits_in_sections ss ≡ edits_of nat n ++ edits_of filter f = ap edits_in_sections is ∙ edits_both n f in (
        ap (is_canonical_batch family) edits ∙ canonical_batch family (edits_of nat n) (edits_of filter f) p q,
        ap (batch_lines family) edits
            ∙ (λ k. section_if_edited nat (nat_part family (edits_of nat n) (edits_of filter f) p q k) ++ section_if_edited filter (filter_part family (edits_of nat n) (edits_of filter f) p q k))
            ∙ (λ k. if_printed family nat n i k ++ if_printed family filter f j k)
            ∙ sym (map-append line_text (lines_of (if_some family nat n)) (lines_of (if_some family filter f)))
            ∙ ap (map line_text) (sym (flat_map-append section_lines (if_some family nat n) (if_some family filter f)) ∙ ap lines_of (sym is)),
      )

  -- and each canonical batch is theirs
  to_sections : (edits : List Edit) → is_canonical_batch family edits ≡ true → (ss : List Section) × (is_canonical Changes family ss ≡ true) × (edits_in_sections ss ≡ edits)
  to_sections edits h =
      let n = rows_for nat family (edits_in nat edits) (part_of family nat edits h) in
      let f = rows_for filter family (edits_in filter edits) (part_of family filter edits h) in
      let i = in_rows family nat n.rows n.are in
      let j = in_rows family filter f.rows f.are in
      let all = all_canonical family edits h in (
        if_some family nat n.rows ++ if_some family filter f.rows,
        and_from _ _ (changes_stand family n.rows f.rows i j) (both_good family Changes n.rows f.rows (nat_is_of family) (filter_is_of family) i j),
        edits_both n.rows f.rows ∙ (λ k. n.edits k ++ f.edits k) ∙ both_parts family edits all.0 all.1,
      )

  pub batch_reader : IsReader (step Changes) start (IsEnd Changes) (λ s. edits_in_sections s.done) line_text (is_canonical_line family) (λ edits. is_canonical_batch family edits ≡ true) (batch_lines family)
  batch_reader = tied (section_reader Changes family) (λ edits. is_canonical_batch family edits ≡ true) (batch_lines family) edits_in_sections from_sections to_sections

pub batch_texts_differ : BatchTextsDiffer
batch_texts_differ family = same_value (batch_reader family)
