-- Edits of one table and the rows of its section.
use Rattle.std.proofs.Common.{◌≡◌, Bool, true, false, cond, not, ◌&&◌, ◌||◌, List, [], ◌∷◌, ◌++◌, bytes_eq, refl, sym, ap, subst, ◌∙◌}
use Rattle.std.specs.Ordering.{is_lt, ordering_reverse}
use Rattle.std.specs.declared.cmp.Ordering.{Ordering}
use Rattle.std.specs.declared.cmp.Ordering.TheVariants.{Less, Equal, Greater}
use Rattle.std.specs.List.{list_all, flat_map, AllByRecursion}
use Rattle.std.proofs.lemmas.Bool.{and_parts, and_from, false≢true}
use Rattle.std.specs.Cmp.Lexicographic.{nat_list_cmp_total, nat_list_eq_equiv}
use Rattle.std.specs.FinMap.{nat_cmp-IsAntisymmetric, slice_cmp-IsAntisymmetric}
use Rattle.kp_base.specs.Keys.{text_cmp}
use Rattle.kp_base.specs.declared.address.Family.{Family}
use Rattle.kp_types.specs.Chains.{is_chain_name}
use Rattle.kp_types.specs.Edits.{is_edit_in}
use Rattle.kp_types.specs.declared.chain.TableName.{TableName}
use Rattle.kp_types.specs.declared.chain.ChainAt.{ChainAt}
use Rattle.kp_types.specs.declared.rule.Rule.{Rule}
use Rattle.kp_types.specs.declared.rule.Edit.{Edit}
use Rattle.kp_types.specs.declared.rule.Edit.TheVariants.{Write, Remove}
use Rattle.kp_object_defs.specs.Desired.{is_empty}
use Rattle.kp_table_defs.specs.Ranks.{is_built_in}
use Rattle.kp_restore_defs.specs.RuleText.{is_canonical_rule}
use Rattle.kp_restore_defs.specs.BatchText.{place_of, has_canonical_rules}
use Rattle.kp_restore.specs.Steps.{written, removed, edits_of}
use Rattle.kp_restore.specs.declared.section.Row.{Row}
use Rattle.kp_restore.proofs.BatchEdits.{IsGoodIn, IsPart, StandsBefore, from_near, near}
use Rattle.kp_restore.proofs.Families.{IsTableOf}
use Rattle.kp_restore.proofs.Pairs.{EachPair, pairs_insert}
use Rattle.kp_restore.proofs.SectionShapes.{is_good}
use Rattle.kp_lemmas.proofs.ListFacts.{all_append, all_both, all_weaker}
use Rattle.kp_lemmas.proofs.Orders.{less_through, lesser_text_differs}

-- a chain stands behind another
abbrev pub IsBelow : Row → Row → Type 0
IsBelow r s = is_lt (text_cmp r.chain s.chain) ≡ true

-- a chain that may be edited: one that isn't built in, without rules if it is removed
abbrev pub fits : TableName → Row → Bool
fits table row = not (is_built_in table row.chain) && (not row.removed || is_empty row.rules)

-- rows of the section of a table in a batch
pub record IsRows (family : Family) (t : TableName) (rows : List Row) : Type 0 where
  pub rise : EachPair IsBelow rows
  pub fit : AllByRecursion (λ r. (fits t r ≡ true) × (is_good family r ≡ true)) rows

below_all : (r s : Row) (rows : List Row) → IsBelow r s → AllByRecursion (IsBelow s) rows → AllByRecursion (IsBelow r) rows
below_all r s rows l = all_weaker (IsBelow s) (IsBelow r) (λ x k. less_through nat_list_cmp_total r.chain s.chain x.chain l k) rows

module _ (t : TableName) where
  -- the write of a chain, and its remove
  abbrev pub write_of : Row → Edit
  write_of row = Write (record { table = t; chain = row.chain }) row.rules

  abbrev pub remove_of : Row → Edit
  remove_of row = Remove (record { table = t; chain = row.chain })

  -- what holds of the write of a row, or of its remove
  abbrev Says : (Edit → Type 0) → (Edit → Type 0) → Row → Type 0
  Says P Q row = (row.removed ≡ false → P (write_of row)) × (row.removed ≡ true → Q (remove_of row))

  pub said : (P Q : Edit → Type 0) (rows : List Row) → AllByRecursion (Says P Q) rows → AllByRecursion P (flat_map (written t) rows) × AllByRecursion Q (flat_map (removed t) rows)
  said P Q [] a = (tt, tt)
  said P Q (r ∷ rows) a =
      let rest = said P Q rows a.1 in
      elim r.removed as (λ b. ((b ≡ false → P (write_of r)) × (b ≡ true → Q (remove_of r)))
      → AllByRecursion P (cond b [] (write_of r ∷ []) ++ flat_map (written t) rows) × AllByRecursion Q (cond b (remove_of r ∷ []) [] ++ flat_map (removed t) rows)) [
        | true ↦ λ s. (rest.0, (s.1 refl, rest.1))
        | false ↦ λ s. ((s.0 refl, rest.0), rest.1)
      ] a.0

  -- and the other way
  told : (P : Edit → Type 0) (rows : List Row) → AllByRecursion P (edits_of t rows) → AllByRecursion (Says P P) rows
  told P [] a = tt
  told P (r ∷ rows) a =
      elim r.removed as (λ b. AllByRecursion P ((cond b [] (write_of r ∷ []) ++ flat_map (written t) rows) ++ (cond b (remove_of r ∷ []) [] ++ flat_map (removed t) rows))
      → ((b ≡ false → P (write_of r)) × (b ≡ true → P (remove_of r))) × AllByRecursion (Says P P) rows) [
        | true ↦ λ a. let k = all_without (flat_map (written t) rows) (remove_of r) (flat_map (removed t) rows) a in ((λ e. absurd (false≢true (sym e)), λ e. k.0), told P rows k.1)
        | false ↦ λ a. ((λ e. a.0, λ e. absurd (false≢true e)), told P rows a.1)
      ] a
    where
      all_without : (xs : List Edit) (y : Edit) (ys : List Edit) → AllByRecursion P (xs ++ y ∷ ys) → P y × AllByRecursion P (xs ++ ys)
      all_without [] y ys a = a
      all_without (x ∷ xs) y ys a = let k = all_without xs y ys a.1 in (k.0, (a.0, k.1))

  -- ---- The edits of rows

  less_apart : (r s : Row) → IsBelow r s → bytes_eq s.chain r.chain ≡ false
  less_apart r s l = nat_list_eq_equiv.symm s.chain r.chain ∙ lesser_text_differs r.chain s.chain l

  rows_pairs : (rows : List Row) → EachPair IsBelow rows → EachPair StandsBefore (edits_of t rows)
  rows_pairs [] p = tt
  rows_pairs (r ∷ rows) p =
      let rest = rows_pairs rows p.1 in
      let W = flat_map (written t) rows in
      let X = flat_map (removed t) rows in
      let writes = said (StandsBefore (write_of r)) (StandsBefore (write_of r)) rows
      (all_weaker (IsBelow r) (Says (StandsBefore (write_of r)) (StandsBefore (write_of r)))
      (λ s l. (λ e. from_near (write_of r) (write_of s) refl (l, lesser_text_differs r.chain s.chain l), λ e. from_near (write_of r) (remove_of s) refl (refl, lesser_text_differs r.chain s.chain l))) rows p.0) in
      let removes = said (λ w. StandsBefore w (remove_of r)) (StandsBefore (remove_of r)) rows
      (all_weaker (IsBelow r) (Says (λ w. StandsBefore w (remove_of r)) (StandsBefore (remove_of r)))
      (λ s l. (λ e. from_near (write_of s) (remove_of r) refl (refl, less_apart r s l), λ e. from_near (remove_of r) (remove_of s) refl (l, lesser_text_differs r.chain s.chain l))) rows p.0) in
      elim r.removed as (λ b. EachPair StandsBefore ((cond b [] (write_of r ∷ []) ++ W) ++ (cond b (remove_of r ∷ []) [] ++ X))) [
        | true ↦ pairs_insert StandsBefore W X (remove_of r) rest removes.0 removes.1
        | false ↦ (all_append (StandsBefore (write_of r)) W X writes.0 writes.1, rest)
      ]

  module _ (family : Family) where
    good_edits : IsTableOf family t → (row : Row) → (fits t row ≡ true) × (is_good family row ≡ true) → Says (IsGoodIn family t) (IsGoodIn family t) row
    good_edits of row g =
        let k = and_parts (not (is_built_in t row.chain)) (not row.removed || is_empty row.rules) g.0 in
        let l = and_parts (is_chain_name row.chain) (list_all (is_canonical_rule family) row.rules) g.1 in
        (λ e. (refl, and_from _ _ of (and_from _ _ l.0 (and_from _ _ k.0 l.1))), λ e. (refl, and_from _ _ of (and_from _ _ l.0 (and_from _ _ k.0 refl))))

    pub edits_part : IsTableOf family t → (rows : List Row) → IsRows family t rows → IsPart family t (edits_of t rows)
    edits_part of rows i =
        let all = said (IsGoodIn family t) (IsGoodIn family t) rows (all_weaker _ (Says (IsGoodIn family t) (IsGoodIn family t)) (good_edits of) rows i.fit) in
        (all_append (IsGoodIn family t) (flat_map (written t) rows) (flat_map (removed t) rows) all.0 all.1, rows_pairs rows i.rise)

  -- ---- The rows of edits

  -- the rows with one more that is written, in its place
  record Put (r : Row) (rows : List Row) : Type 1 where
    all : List Row
    writes : flat_map (written t) all ≡ written t r ++ flat_map (written t) rows
    removes : flat_map (removed t) all ≡ flat_map (removed t) rows
    rise : EachPair IsBelow all
    keeps : (P : Row → Type 0) → P r → AllByRecursion P rows → AllByRecursion P all

  -- a chain that the write of another may stand before
  abbrev Admits : Row → Row → Type 0
  Admits r s = (bytes_eq r.chain s.chain ≡ false) × (s.removed ≡ false → IsBelow r s)

  put : (r : Row) (rows : List Row) → r.removed ≡ false → EachPair IsBelow rows → AllByRecursion (Admits r) rows → Put r rows
  put r [] kept p a = record { all = r ∷ []; writes = refl; removes = ap (λ b. cond b (remove_of r ∷ []) [] ++ []) kept; rise = (tt, tt); keeps = λ P x y. (x, tt) }
  put r (s ∷ rows) kept p a = by (text_cmp r.chain s.chain) refl (put r rows kept p.1 a.1)
    where
      by : (o : Ordering) → text_cmp r.chain s.chain ≡ o → Put r rows → Put r (s ∷ rows)
      by Less e m = record {
        all = r ∷ s ∷ rows;
        writes = refl;
        removes = ap (λ b. cond b (remove_of r ∷ []) [] ++ flat_map (removed t) (s ∷ rows)) kept;
        rise = ((ap is_lt e, below_all r s rows (ap is_lt e) p.0), p);
        keeps = λ P x y. (x, y);
      }
      by Equal e m = absurd (false≢true (sym a.0.0 ∙ subst (λ x. bytes_eq r.chain x ≡ true) (slice_cmp-IsAntisymmetric nat_cmp-IsAntisymmetric r.chain s.chain e) (nat_list_eq_equiv.refl r.chain)))
      by Greater e m =
          let is : s.removed ≡ true = elim s.removed as (λ b. (b ≡ false → IsBelow r s) → b ≡ true) [ true ↦ λ f. refl | false ↦ λ f. sym (ap is_lt e) ∙ f refl ] a.0.1 in
          let gone : written t s ≡ [] = ap (λ b. cond b [] (write_of s ∷ [])) is in
          record {
            all = s ∷ m.all;
            writes = ap (λ l. l ++ flat_map (written t) m.all) gone ∙ m.writes ∙ ap (λ l. written t r ++ (l ++ flat_map (written t) rows)) (sym gone);
            removes = ap (λ l. removed t s ++ l) m.removes;
            rise = (m.keeps (IsBelow s) (ap is_lt (nat_list_cmp_total.antisymm s.chain r.chain ∙ ap ordering_reverse e)) p.0, m.rise);
            keeps = λ P x y. (y.0, m.keeps P x y.1);
          }

  none_written : (rows : List Row) → AllByRecursion (λ s. s.removed ≡ true) rows → flat_map (written t) rows ≡ []
  none_written [] a = refl
  none_written (s ∷ rows) a = ap (λ b. cond b [] (write_of s ∷ []) ++ flat_map (written t) rows) a.0 ∙ none_written rows a.1

  -- the rows whose edits these are
  pub record RowsFor (family : Family) (es : List Edit) : Type 0 where
    pub rows : List Row
    pub are : IsRows family t rows
    pub edits : edits_of t rows ≡ es

  module _ (family : Family) where
    abbrev row_of : ChainAt → List Rule → Bool → Row
    row_of at rules gone = record { chain = at.chain; rules = rules; removed = gone }

    fit_row : (e : Edit) (rules : List Rule) (gone : Bool) → (not gone || is_empty rules) ≡ true → (has_canonical_rules family e ≡ true → list_all (is_canonical_rule family) rules ≡ true) → IsGoodIn family t e
        → (fits t (row_of (place_of e) rules gone) ≡ true) × (is_good family (row_of (place_of e) rules gone) ≡ true)
    fit_row e rules gone clear bounded g =
        let k = and_parts (is_edit_in family e) (is_chain_name (place_of e).chain && (not (is_built_in (place_of e).table (place_of e).chain) && has_canonical_rules family e)) g.1 in
        let l = and_parts (is_chain_name (place_of e).chain) (not (is_built_in (place_of e).table (place_of e).chain) && has_canonical_rules family e) k.1 in
        let m = and_parts (not (is_built_in (place_of e).table (place_of e).chain)) (has_canonical_rules family e) l.1 in
        (and_from _ _ (subst (λ u. not (is_built_in u (place_of e).chain) ≡ true) g.0 m.0) clear, and_from _ _ l.0 (bounded m.1))

    pub rows_for : (es : List Edit) → IsPart family t es → RowsFor family es
    rows_for [] p = record { rows = []; are = record { rise = tt; fit = tt }; edits = refl }
    rows_for (e ∷ es) p =
        let m = rows_for es (p.0.1, p.1.1) in
        by e p.0.0 m (told (StandsBefore e) m.rows (subst (AllByRecursion (StandsBefore e)) (sym m.edits) p.1.0))
      where
        by : (e : Edit) → IsGoodIn family t e → (m : RowsFor family es) → AllByRecursion (Says (StandsBefore e) (StandsBefore e)) m.rows → RowsFor family (e ∷ es)
        by (Write at rules) g m before =
            let r = row_of at rules false in
            let admits = all_weaker (Says (StandsBefore (Write at rules)) (StandsBefore (Write at rules))) (Admits r) (λ s k. (
              elim s.removed as (λ b. (b ≡ false → StandsBefore (Write at rules) (write_of s)) × (b ≡ true → StandsBefore (Write at rules) (remove_of s)) → bytes_eq at.chain s.chain ≡ false) [
                | true ↦ λ k. (near (Write at rules) (remove_of s) g.0 (k.1 refl)).1
                | false ↦ λ k. (near (Write at rules) (write_of s) g.0 (k.0 refl)).1
              ] k,
              λ e. (near (Write at rules) (write_of s) g.0 (k.0 e)).0,
            )) m.rows before in
            let n = put r m.rows refl m.are.rise admits in
            record {
              rows = n.all;
              are = record { rise = n.rise; fit = n.keeps _ (fit_row (Write at rules) rules false refl (λ c. c) g) m.are.fit };
              edits = (λ i. n.writes i ++ n.removes i) ∙ (λ i. Write (record { table = sym g.0 i; chain = at.chain }) rules ∷ m.edits i);
            }
        by (Remove at) g m before =
            let r = row_of at [] true in
            let gone = all_weaker (Says (StandsBefore (Remove at)) (StandsBefore (Remove at))) (λ s. s.removed ≡ true) (λ s k.
            elim s.removed as (λ b. (b ≡ false → StandsBefore (Remove at) (write_of s)) → b ≡ true) [ true ↦ λ f. refl | false ↦ λ f. (near (Remove at) (write_of s) g.0 (f refl)).0 ] k.0) m.rows before in
            let none = none_written m.rows gone in
            record {
              rows = r ∷ m.rows;
              are = record {
                rise = (all_weaker (λ s. Says (StandsBefore (Remove at)) (StandsBefore (Remove at)) s × (s.removed ≡ true)) (IsBelow r) (λ s k. (near (Remove at) (remove_of s) g.0 (k.0.1 k.1)).0) m.rows (all_both _ (λ s. s.removed ≡ true) m.rows before gone), m.are.rise);
                fit = (fit_row (Remove at) [] true refl (λ c. refl) g, m.are.fit);
              };
              edits =
                  ap (λ l. l ++ remove_of r ∷ flat_map (removed t) m.rows) none
                  ∙ (λ i. Remove (record { table = sym g.0 i; chain = at.chain }) ∷ (ap (λ l. l ++ flat_map (removed t) m.rows) (sym none) ∙ m.edits) i);
            }
