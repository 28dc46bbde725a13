-- What sections that stand have: their lines within their bounds, and the sections of a family's two tables.
use Rattle.std.proofs.Common.{◌≡◌, Bool, true, false, cond, not, ◌&&◌, List, [], ◌∷◌, ◌++◌, map, Option, Some, None, refl, sym, ap, subst, ◌∙◌, inl, inr}
use Rattle.std.specs.List.{list_all, flat_map}
use Rattle.std.proofs.lemmas.Bool.{and_parts, and_from, false≢true, not-true}
use Rattle.std.proofs.lemmas.Grind.{flat_map-append}
use Rattle.std.proofs.lemmas.List.{append-nil}
use Rattle.std.proofs.lemmas.List.Folds.{list_all-append, list_all-map}
use Rattle.kp_base.specs.Net.{same_family}
use Rattle.kp_base.specs.declared.address.Family.{Family}
use Rattle.kp_base.specs.declared.address.Family.TheVariants.{V4, V6}
use Rattle.kp_types.specs.Chains.{is_chain_name}
use Rattle.kp_types.specs.Places.{family_of_table, filter_of, nat_of}
use Rattle.kp_types.specs.declared.chain.TableName.{TableName}
use Rattle.kp_object_defs.specs.Desired.{is_empty}
use Rattle.kp_table_defs.specs.Ranks.{is_built_in}
use Rattle.kp_restore_defs.specs.RuleText.{is_canonical_rule}
use Rattle.kp_restore.specs.Lines.{is_canonical_line}
use Rattle.kp_restore.specs.Sections.{declared_part, is_canonical, is_next, is_section, lines_of, may_end, may_open, names_of, removed_part, rule_parts, section_lines, sections_stand}
use Rattle.kp_restore.specs.declared.line.Line.{Line}
use Rattle.kp_restore.specs.declared.line.Line.TheVariants as line
use Rattle.kp_restore.specs.declared.section.Form.{Form}
use Rattle.kp_restore.specs.declared.section.Form.TheVariants.{Whole, Changes}
use Rattle.kp_restore.specs.declared.section.Row.{Row}
use Rattle.kp_restore.specs.declared.section.Section.{Section}
use Rattle.kp_restore.proofs.Families.{IsTableOf, which_table}
use Rattle.kp_restore.proofs.Machine.{all_front}
use Rattle.kp_restore.proofs.Tests.{all_both, all_flat}
use Rattle.kp_lemmas.proofs.ListFacts.{test_append, test_weaker}

-- ---- Lines within their bounds

-- names and rules within their bounds
abbrev pub is_good : Family → Row → Bool
is_good family row = is_chain_name row.chain && list_all (is_canonical_rule family) row.rules

module _ (family : Family) where
  abbrev good : Line → Bool
  good l = is_canonical_line family l

  declared_good : (t : TableName) (rows : List Row) → list_all (is_canonical_line family) (map (declared_part t) (names_of rows)) ≡ list_all (λ row. is_chain_name row.chain) rows
  declared_good t [] = refl
  declared_good t (r ∷ rows) =
      λ i. elim (is_built_in t r.chain) as (λ b. is_canonical_line family (cond b (line.BuiltIn r.chain) (line.Declared r.chain)) ≡ is_chain_name r.chain) [ true ↦ refl | false ↦ refl ] i && declared_good t rows i

  -- the lines of rows, where their names are within their bounds
  rules_good : (row : Row) → list_all good (rule_parts row) ≡ list_all (λ rule. is_chain_name row.chain && is_canonical_rule family rule) row.rules
  rules_good row = list_all-map good (line.Ruled row.chain) row.rules

  pub good_section : (t : TableName) (rows : List Row) → IsTableOf family t → list_all (is_good family) rows ≡ true → list_all (is_canonical_line family) (section_lines (record { table = t; rows = rows })) ≡ true
  good_section t rows of g =
      let each : (p : Row → Bool) → ((row : Row) → is_chain_name row.chain ≡ true → list_all (is_canonical_rule family) row.rules ≡ true → p row ≡ true) → list_all p rows ≡ true = λ p f.
      test_weaker (is_good family) p (λ row k. let m = and_parts (is_chain_name row.chain) (list_all (is_canonical_rule family) row.rules) k in f row m.0 m.1) rows g in
      let d = map (declared_part t) (names_of rows) in
      let r = flat_map rule_parts rows in
      let x = flat_map removed_part rows in
      and_from _ _ of
      (test_append good (d ++ (r ++ x)) (line.Commit ∷ [])
      (test_append good d (r ++ x) (declared_good t rows ∙ each (λ row. is_chain_name row.chain) (λ row n h. n))
      (test_append good r x
      (all_flat good rule_parts rows ∙ each (λ row. list_all good (rule_parts row))
      (λ row n h. rules_good row ∙ test_weaker (is_canonical_rule family) (λ rule. is_chain_name row.chain && is_canonical_rule family rule) (λ rule l. and_from _ _ n l) row.rules h))
      (all_flat good removed_part rows ∙ each (λ row. list_all good (removed_part row))
      (λ row n h. elim row.removed as (λ b. list_all good (cond b (line.Removed row.chain ∷ []) []) ≡ true) [ true ↦ and_from _ _ n refl | false ↦ refl ]))))
      refl)

  pub section_good : (t : TableName) (rows : List Row) → list_all (is_canonical_line family) (section_lines (record { table = t; rows = rows })) ≡ true → IsTableOf family t × (list_all (is_good family) rows ≡ true)
  section_good t rows h =
      let d = map (declared_part t) (names_of rows) in
      let r = flat_map rule_parts rows in
      let x = flat_map removed_part rows in
      let a = and_parts (same_family (family_of_table t) family) (list_all good ((d ++ (r ++ x)) ++ line.Commit ∷ [])) h in
      let b = all_front good (d ++ (r ++ x)) (line.Commit ∷ []) a.1 in
      let c = all_front good d (r ++ x) b.0 in
      let e = all_front good r x c.1 in (
        a.0,
        all_both (λ row. is_chain_name row.chain) (λ row. list_all good (rule_parts row)) (is_good family)
            (λ row n h. and_from _ _ n (test_weaker (λ rule. is_chain_name row.chain && is_canonical_rule family rule) (is_canonical_rule family) (λ rule l. (and_parts (is_chain_name row.chain) (is_canonical_rule family rule) l).1) row.rules (sym (rules_good row) ∙ h)))
            rows (sym (declared_good t rows) ∙ c.0) (sym (all_flat good rule_parts rows) ∙ e.0),
      )

  -- ---- The sections of a family's tables

  -- what a section of a text has
  pub record IsIn (form : Form) (t : TableName) (rows : List Row) : Type 0 where
    pub section : is_section form (record { table = t; rows = rows }) ≡ true
    pub good_rows : list_all (is_good family) rows ≡ true

  -- a section, if it has a chain
  abbrev pub if_some : TableName → List Row → List Section
  if_some t rows = cond (is_empty rows) [] ((record { table = t; rows = rows }) ∷ [])

  abbrev pub IsIfSome : Form → TableName → List Row → Type 0
  IsIfSome form t rows = is_empty rows ≡ false → IsIn form t rows

  no_more : (t : TableName) → is_next (filter_of family) t ≡ false
  no_more t = elim family as (λ f. is_next (filter_of f) t ≡ false) [ V4 ↦ refl | V6 ↦ refl ]

  not_twice : is_next (nat_of family) (nat_of family) ≡ false
  not_twice = elim family as (λ f. is_next (nat_of f) (nat_of f) ≡ false) [ V4 ↦ refl | V6 ↦ refl ]

  filter_next : is_next (nat_of family) (filter_of family) ≡ true
  filter_next = elim family as (λ f. is_next (nat_of f) (filter_of f) ≡ true) [ V4 ↦ refl | V6 ↦ refl ]

  module _ (form : Form) where
    -- of sections that stand the first
    heads : (last : Option TableName) (s : Section) (ss : List Section) → sections_stand form last (s ∷ ss) ≡ true → list_all (is_canonical_line family) (lines_of (s ∷ ss)) ≡ true
        → (may_open form last s.table ≡ true) × IsTableOf family s.table × IsIn form s.table s.rows × (is_empty s.rows ≡ false) × (sections_stand form (Some s.table) ss ≡ true) × (list_all (is_canonical_line family) (lines_of ss) ≡ true)
    heads last s ss h g =
        let p = and_parts (may_open form last s.table) (is_section form s && sections_stand form (Some s.table) ss) h in
        let q = and_parts (is_section form s) (sections_stand form (Some s.table) ss) p.1 in
        let k = all_front good (section_lines s) (lines_of ss) g in
        let l = section_good s.table s.rows k.0 in
        (p.0, l.0, record { section = q.0; good_rows = l.1 }, not-true (is_empty s.rows) (and_parts (not (is_empty s.rows)) _ (and_parts _ (not (is_empty s.rows) && _) q.0).1).0, q.1, k.1)

    none_behind : (ss : List Section) → sections_stand form (Some (filter_of family)) ss ≡ true → ss ≡ []
    none_behind [] h = refl
    none_behind (s ∷ ss) h = absurd (false≢true (sym (no_more s.table) ∙ (and_parts (is_next (filter_of family) s.table) (is_section form s && sections_stand form (Some s.table) ss) h).0))

    alone : (t : TableName) (s : Section) → s.table ≡ t → is_empty s.rows ≡ false → s ∷ [] ≡ if_some t s.rows
    alone t s is some = (λ i. (record { table = is i; rows = s.rows }) ∷ []) ∙ sym (ap (λ b. cond b [] ((record { table = t; rows = s.rows }) ∷ [])) some)

    -- behind the nat table, or at the start, that of the filter table may stand
    filter_behind : (s : Section) (ss : List Section) → s.table ≡ filter_of family → IsIn form s.table s.rows → is_empty s.rows ≡ false → sections_stand form (Some s.table) ss ≡ true
        → (f : List Row) × (s ∷ ss ≡ if_some (filter_of family) f) × IsIfSome form (filter_of family) f
    filter_behind s ss is i some h =
        let none = none_behind ss (ap (λ t. sections_stand form (Some t) ss) (sym is) ∙ h) in
        (s.rows, ap (λ q. s ∷ q) none ∙ alone (filter_of family) s is some, λ e. subst (λ t. IsIn form t s.rows) is i)

    after_nat : (ss : List Section) → sections_stand form (Some (nat_of family)) ss ≡ true → list_all (is_canonical_line family) (lines_of ss) ≡ true
        → (f : List Row) × (ss ≡ if_some (filter_of family) f) × IsIfSome form (filter_of family) f
    after_nat [] h g = ([], refl, λ e. absurd (false≢true (sym e)))
    after_nat (s ∷ ss) h g =
        let k = heads (Some (nat_of family)) s ss h g in
        elim (which_table family s.table k.1) [
          | inl is ↦ absurd (false≢true (sym not_twice ∙ ap (is_next (nat_of family)) (sym is) ∙ k.0))
          | inr is ↦ filter_behind s ss is k.2 k.3 k.4
        ]

    -- all sections of a text are those of both tables
    pub both_tables : (ss : List Section) → is_canonical form family ss ≡ true
        → (n f : List Row) × (ss ≡ if_some (nat_of family) n ++ if_some (filter_of family) f) × IsIfSome form (nat_of family) n × IsIfSome form (filter_of family) f
    both_tables [] c = ([], [], refl, λ e. absurd (false≢true (sym e)), λ e. absurd (false≢true (sym e)))
    both_tables (s ∷ ss) c =
        let p = and_parts (sections_stand form None (s ∷ ss)) (list_all (is_canonical_line family) (lines_of (s ∷ ss))) c in
        let k = heads None s ss p.0 p.1 in
        elim (which_table family s.table k.1) [
          | inl is ↦
              let rest = after_nat ss (ap (λ t. sections_stand form (Some t) ss) (sym is) ∙ k.4) k.5 in
              (s.rows, rest.0, (λ i. alone (nat_of family) s is k.3 i ++ rest.1 i), λ e. subst (λ t. IsIn form t s.rows) is k.2, rest.2)
          | inr is ↦
              let rest = filter_behind s ss is k.2 k.3 k.4 in
              ([], rest.0, rest.1, λ e. absurd (false≢true (sym e)), rest.2)
        ]

    if_good : (t : TableName) (rows : List Row) → IsTableOf family t → IsIfSome form t rows → list_all (is_canonical_line family) (lines_of (if_some t rows)) ≡ true
    if_good t [] of i = refl
    if_good t (r ∷ rows) of i = ap (list_all (is_canonical_line family)) (append-nil (section_lines (record { table = t; rows = r ∷ rows }))) ∙ good_section t (r ∷ rows) of (i refl).good_rows

    -- both tables' sections stand, where they stand in this order
    pub both_good : (n f : List Row) → IsTableOf family (nat_of family) → IsTableOf family (filter_of family) → IsIfSome form (nat_of family) n → IsIfSome form (filter_of family) f
        → list_all (is_canonical_line family) (lines_of (if_some (nat_of family) n ++ if_some (filter_of family) f)) ≡ true
    both_good n f on of i j =
        ap (list_all (is_canonical_line family)) (flat_map-append section_lines (if_some (nat_of family) n) (if_some (filter_of family) f))
        ∙ list_all-append good (lines_of (if_some (nat_of family) n)) (lines_of (if_some (filter_of family) f))
        ∙ and_from _ _ (if_good (nat_of family) n on i) (if_good (filter_of family) f of j)

    filter_stands : (f : List Row) (last : Option TableName) → may_open form last (filter_of family) ≡ true → may_end form (Some (filter_of family)) ≡ true → (is_empty f ≡ true → may_end form last ≡ true) → IsIfSome form (filter_of family) f → sections_stand form last (if_some (filter_of family) f) ≡ true
    filter_stands [] last o e b j = b refl
    filter_stands (r ∷ f) last o e b j = and_from _ _ o (and_from _ _ (j refl).section e)

  -- the sections of changes
  pub changes_stand : (n f : List Row) → IsIfSome Changes (nat_of family) n → IsIfSome Changes (filter_of family) f → sections_stand Changes None (if_some (nat_of family) n ++ if_some (filter_of family) f) ≡ true
  changes_stand [] f i j = filter_stands Changes f None refl refl (λ e. refl) j
  changes_stand (r ∷ n) f i j = and_from _ _ refl (and_from _ _ (i refl).section (filter_stands Changes f (Some (nat_of family)) filter_next refl (λ e. refl) j))

  -- those of whole tables
  pub whole_stand : (n f : List Row) → is_empty n ≡ false → is_empty f ≡ false → IsIn Whole (nat_of family) n → IsIn Whole (filter_of family) f → sections_stand Whole None (if_some (nat_of family) n ++ if_some (filter_of family) f) ≡ true
  whole_stand [] f e g i j = absurd (false≢true (sym e))
  whole_stand (r ∷ n) [] e g i j = absurd (false≢true (sym g))
  whole_stand (r ∷ n) (q ∷ f) e g i j =
      let begins = elim family as (λ f. may_open Whole None (nat_of f) ≡ true) [ V4 ↦ refl | V6 ↦ refl ] in
      let ends = elim family as (λ f. may_end Whole (Some (filter_of f)) ≡ true) [ V4 ↦ refl | V6 ↦ refl ] in
      and_from _ _ begins (and_from _ _ i.section (and_from _ _ filter_next (and_from _ _ j.section ends)))

  -- whole tables have both sections
  pub whole_has_both : (n f : List Row) → sections_stand Whole None (if_some (nat_of family) n ++ if_some (filter_of family) f) ≡ true → (is_empty n ≡ false) × (is_empty f ≡ false)
  whole_has_both [] [] h = absurd (false≢true h)
  whole_has_both [] (q ∷ f) h = absurd (false≢true (sym (elim family as (λ f. may_open Whole None (filter_of f) ≡ false) [ V4 ↦ refl | V6 ↦ refl ]) ∙ (and_parts (may_open Whole None (filter_of family)) _ h).0))
  whole_has_both (r ∷ n) [] h =
      let over = (and_parts (is_section Whole (record { table = nat_of family; rows = r ∷ n })) _ (and_parts (may_open Whole None (nat_of family)) _ h).1).1 in
      absurd (false≢true (sym (elim family as (λ f. may_end Whole (Some (nat_of f)) ≡ false) [ V4 ↦ refl | V6 ↦ refl ]) ∙ over))
  whole_has_both (r ∷ n) (q ∷ f) h = (refl, refl)
