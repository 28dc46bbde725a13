-- Edits in order, one of a place: those of one table, and those of both tables of a family.
use Rattle.std.proofs.Common.{◌≡◌, ◌⊎◌, ◌==◌, ◌&&◌, Bool, true, false, cond, not, List, [], ◌∷◌, ◌++◌, bytes_eq, refl, sym, ap, ◌∙◌, inl, inr}
use Rattle.std.specs.List.{list_all, AllByRecursion}
use Rattle.std.specs.Ordering.{nat_cmp, is_lt, ordering_then}
use Rattle.std.proofs.lemmas.Bool.{and_parts, and_from, false≢true, not-true}
use Rattle.std.proofs.lemmas.List.{append-nil}
use Rattle.std.proofs.lemmas.List.Elements.{filter-append}
use Rattle.kp_base.specs.Keys.{text_cmp}
use Rattle.kp_base.specs.declared.address.Family.{Family}
use Rattle.kp_types.specs.Chains.{is_chain_name}
use Rattle.kp_types.specs.Edits.{is_edit_in}
use Rattle.kp_types.specs.Places.{table_place, nat_of, filter_of}
use Rattle.kp_types.specs.declared.chain.TableName.{TableName}
use Rattle.kp_types.specs.declared.rule.Edit.{Edit}
use Rattle.kp_types.proofs.ChainOrder.{one_table_from_test}
use Rattle.kp_table_defs.specs.Ranks.{is_built_in}
use Rattle.kp_restore_defs.specs.BatchText.{place_of, edits_in, edit_cmp, are_in_order, is_same_place, edit_each_once, kind_place, has_canonical_rules, is_canonical_edit, is_canonical_batch}
use Rattle.kp_restore.proofs.Families.{which_table, nat_first, filter_last, nat_is_no_filter, filter_is_no_nat, table_tied}
use Rattle.kp_restore.proofs.Pairs.{EachPair, all_kept, pairs_append, pairs_kept}
use Rattle.kp_restore.proofs.Rows.{tied_table}
use Rattle.kp_restore.proofs.Tests.{all_true, filter_none, none_of}
use Rattle.kp_lemmas.proofs.ListFacts.{all_both, all_tested, all_weaker, filter_all, test_append}

abbrev pub StandsBefore : Edit → Edit → Type 0
StandsBefore a b = (is_lt (edit_cmp a b) ≡ true) × (is_same_place a b ≡ false)

-- a canonical edit of a table
abbrev pub IsGoodIn : Family → TableName → Edit → Type 0
IsGoodIn family table e = ((place_of e).table ≡ table) × (is_canonical_edit family e ≡ true)

-- the edits of a table in a canonical batch
abbrev pub IsPart : Family → TableName → List Edit → Type 0
IsPart family table es = AllByRecursion (IsGoodIn family table) es × EachPair StandsBefore es

ordered : (es : List Edit) → EachPair StandsBefore es → (are_in_order es ≡ true) × (edit_each_once es ≡ true)
ordered [] p = (refl, refl)
ordered (e ∷ es) p =
    let k = ordered es p.1 in (
      and_from _ _ (all_true _ (StandsBefore e) (λ x s. s.0) es p.0) k.0,
      and_from _ _ (none_of (is_same_place e) es ∙ all_true _ (StandsBefore e) (λ x s. ap not s.1) es p.0) k.1,
    )

pub pairs_of : (es : List Edit) → are_in_order es ≡ true → edit_each_once es ≡ true → EachPair StandsBefore es
pairs_of [] o d = tt
pairs_of (e ∷ es) o d =
    let k = and_parts _ _ o in
    let l = and_parts _ _ d in
    let apart = all_tested (λ x. not (is_same_place e x)) es (sym (none_of (is_same_place e) es) ∙ l.0) in (
      all_both (λ x. is_lt (edit_cmp e x) ≡ true) (λ x. is_same_place e x ≡ false) es (all_tested (λ x. is_lt (edit_cmp e x)) es k.0)
          (all_weaker (λ x. not (is_same_place e x) ≡ true) (λ x. is_same_place e x ≡ false) (λ x n. not-true _ n) es apart),
      pairs_of es k.1 l.1,
    )

-- ---- Edits of one table

-- they stand by their kinds and by their names
abbrev pub StandsNear : Edit → Edit → Type 0
StandsNear a b =
    (is_lt (ordering_then (nat_cmp (kind_place a) (kind_place b)) (text_cmp (place_of a).chain (place_of b).chain)) ≡ true)
    × (bytes_eq (place_of a).chain (place_of b).chain ≡ false)

module _ (a b : Edit) (one : (place_of a).table ≡ (place_of b).table) where
  compared : edit_cmp a b ≡ ordering_then (nat_cmp (kind_place a) (kind_place b)) (text_cmp (place_of a).chain (place_of b).chain)
  compared =
      let rest = ordering_then (nat_cmp (kind_place a) (kind_place b)) (text_cmp (place_of a).chain (place_of b).chain) in
      (λ i. ordering_then (nat_cmp (table_place (one i)) (table_place (place_of b).table)) rest) ∙ tied_table (place_of b).table rest

  pub placed : is_same_place a b ≡ bytes_eq (place_of a).chain (place_of b).chain
  placed =
      (λ i. (table_place (one i) == table_place (place_of b).table) && bytes_eq (place_of a).chain (place_of b).chain)
      ∙ ap (λ t. t && bytes_eq (place_of a).chain (place_of b).chain) (table_tied (place_of b).table)

  pub near : StandsBefore a b → StandsNear a b
  near s = (sym (ap is_lt compared) ∙ s.0, sym placed ∙ s.1)

  pub from_near : StandsNear a b → StandsBefore a b
  from_near n = (ap is_lt compared ∙ n.0, placed ∙ n.1)

-- ---- Edits of both tables

module _ (family : Family) where
  abbrev first : TableName
  first = nat_of family

  abbrev second : TableName
  second = filter_of family

  abbrev is_in : TableName → Edit → Bool
  is_in t e = table_place (place_of e).table == table_place t

  abbrev pub IsCanonical : Edit → Type 0
  IsCanonical e = is_canonical_edit family e ≡ true

  pub all_canonical : (edits : List Edit) → is_canonical_batch family edits ≡ true → AllByRecursion IsCanonical edits × EachPair StandsBefore edits
  all_canonical edits h =
      let k = and_parts (list_all (is_canonical_edit family) edits) (are_in_order edits && edit_each_once edits) h in
      let l = and_parts (are_in_order edits) (edit_each_once edits) k.1 in
      (all_tested (is_canonical_edit family) edits k.0, pairs_of edits l.0 l.1)

  pub part_of : (t : TableName) (edits : List Edit) → is_canonical_batch family edits ≡ true → IsPart family t (edits_in t edits)
  part_of t edits h =
      let k = all_canonical edits h in (
        all_weaker (λ e. IsCanonical e × (is_in t e ≡ true)) (IsGoodIn family t) (λ e g. (one_table_from_test (place_of e).table t g.1, g.0)) (edits_in t edits)
            (all_kept IsCanonical (is_in t) edits k.0),
        pairs_kept StandsBefore (is_in t) edits k.1,
      )

  -- an edit of the nat table stands before one of the filter table
  tables_stand : (a b : Edit) → IsGoodIn family first a → IsGoodIn family second b → StandsBefore a b
  tables_stand a b n f = (
    (λ i. is_lt (ordering_then (nat_cmp (table_place (n.0 i)) (table_place (f.0 i))) (ordering_then (nat_cmp (kind_place a) (kind_place b)) (text_cmp (place_of a).chain (place_of b).chain))))
        ∙ ap (λ o. is_lt (ordering_then o (ordering_then (nat_cmp (kind_place a) (kind_place b)) (text_cmp (place_of a).chain (place_of b).chain)))) (nat_first family),
    (λ i. (table_place (n.0 i) == table_place (f.0 i)) && bytes_eq (place_of a).chain (place_of b).chain)
        ∙ ap (λ t. t && bytes_eq (place_of a).chain (place_of b).chain) (nat_is_no_filter family),
  )

  pub canonical_batch : (ns fs : List Edit) → IsPart family first ns → IsPart family second fs → is_canonical_batch family (ns ++ fs) ≡ true
  canonical_batch ns fs n f =
      let across = all_weaker (IsGoodIn family first) (λ a. AllByRecursion (StandsBefore a) fs) (λ a g. all_weaker (IsGoodIn family second) (StandsBefore a) (λ b h. tables_stand a b g h) fs f.0) ns n.0 in
      let stand = ordered (ns ++ fs) (pairs_append StandsBefore ns fs n.1 f.1 across) in
      let good : (t : TableName) (es : List Edit) → AllByRecursion (IsGoodIn family t) es → list_all (is_canonical_edit family) es ≡ true =
      λ t. all_true (is_canonical_edit family) (IsGoodIn family t) (λ e g. g.1) in
      and_from _ _ (test_append (is_canonical_edit family) ns fs (good first ns n.0) (good second fs f.0)) (and_from _ _ stand.0 stand.1)

  alone : (t : TableName) (es : List Edit) → AllByRecursion (IsGoodIn family t) es → edits_in t es ≡ es
  alone t es a = filter_all (is_in t) es (all_true (is_in t) (IsGoodIn family t) (λ e g. ap (λ u. table_place u == table_place t) g.0 ∙ table_tied t) es a)

  absent : (t u : TableName) (es : List Edit) → (table_place u == table_place t) ≡ false → AllByRecursion (IsGoodIn family u) es → edits_in t es ≡ []
  absent t u es other a = filter_none (is_in t) es (all_true (λ e. not (is_in t e)) (IsGoodIn family u) (λ e g. ap (λ v. not (table_place v == table_place t)) g.0 ∙ ap not other) es a)

  pub nat_part : (ns fs : List Edit) → IsPart family first ns → IsPart family second fs → edits_in first (ns ++ fs) ≡ ns
  nat_part ns fs n f = filter-append (is_in first) ns fs ∙ (λ i. alone first ns n.0 i ++ absent first second fs (filter_is_no_nat family) f.0 i) ∙ append-nil ns

  pub filter_part : (ns fs : List Edit) → IsPart family first ns → IsPart family second fs → edits_in second (ns ++ fs) ≡ fs
  filter_part ns fs n f = filter-append (is_in second) ns fs ∙ (λ i. absent second first ns (nat_is_no_filter family) n.0 i ++ alone second fs f.0 i)

  which : (e : Edit) → IsCanonical e → ((place_of e).table ≡ first) ⊎ ((place_of e).table ≡ second)
  which e c = which_table family (place_of e).table (and_parts (is_edit_in family e) (is_chain_name (place_of e).chain && (not (is_built_in (place_of e).table (place_of e).chain) && has_canonical_rules family e)) c).0

  -- behind an edit of the filter table stand only such
  later : (e other : Edit) → (place_of e).table ≡ second → IsCanonical other → StandsBefore e other → (place_of other).table ≡ second
  later e other g c s = by (which other c)
    where
      by : ((place_of other).table ≡ first) ⊎ ((place_of other).table ≡ second) → (place_of other).table ≡ second
      by (inr h) = h
      by (inl h) =
          let rest = ordering_then (nat_cmp (kind_place e) (kind_place other)) (text_cmp (place_of e).chain (place_of other).chain) in
          absurd (false≢true (sym ((λ i. is_lt (ordering_then (nat_cmp (table_place (g i)) (table_place (h i))) rest)) ∙ ap (λ o. is_lt (ordering_then o rest)) (filter_last family)) ∙ s.0))

  -- the edits of both tables are all edits of a family
  pub both_parts : (es : List Edit) → AllByRecursion IsCanonical es → EachPair StandsBefore es → edits_in first es ++ edits_in second es ≡ es
  both_parts [] a p = refl
  both_parts (e ∷ es) a p = by (which e a.0) (both_parts es a.1 p.1)
    where
      by : ((place_of e).table ≡ first) ⊎ ((place_of e).table ≡ second) → edits_in first es ++ edits_in second es ≡ es → edits_in first (e ∷ es) ++ edits_in second (e ∷ es) ≡ e ∷ es
      by (inl g) rest =
          (λ i. cond (table_place (g i) == table_place first) (e ∷ edits_in first es) (edits_in first es) ++ cond (table_place (g i) == table_place second) (e ∷ edits_in second es) (edits_in second es))
          ∙ (λ i. cond (table_tied first i) (e ∷ edits_in first es) (edits_in first es) ++ cond (nat_is_no_filter family i) (e ∷ edits_in second es) (edits_in second es))
          ∙ ap (λ l. e ∷ l) rest
      by (inr g) rest =
          let behind = all_weaker (λ x. IsCanonical x × StandsBefore e x) (IsGoodIn family second) (λ x k. (later e x g k.0 k.1, k.0)) es (all_both IsCanonical (StandsBefore e) es a.1 p.0) in
          λ i. absent first second (e ∷ es) (filter_is_no_nat family) ((g, a.0), behind) i ++ alone second (e ∷ es) ((g, a.0), behind) i
