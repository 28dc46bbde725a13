-- A kept entry is heard of.
use Rattle.std.proofs.Common.{◌≡◌, ◌≢◌, ◌⊎◌, ℕ, ◌+◌, ◌<◌, ◌≤◌, Bool, true, false, List, [], ◌∷◌, ◌++◌, map, filter, length, set, get_or, cond, Option, Some, None, refl, sym, ap, ◌∙◌, subst, inl, inr, arith, length-set, get_or-set_same, get_or-set_other}
use Rattle.std.specs.List.{find}
use Rattle.std.proofs.lemmas.Bool.{cases_eq}
use Rattle.futures.specs.LinkedLists.{IsApart, IsIn, without}
use Rattle.futures.proofs.LinkLemmas.{IsIn-without}
use Rattle.kp_links.specs.Lists.{IsMoved, Lists, rows_of}
use Rattle.kp_track_defs.specs.declared.flow.Entry.{Entry}
use Rattle.kp_track_defs.specs.Entries.{change_first, renewed}
use Rattle.kp_conntrack.specs.Buckets.{age_list, connection_place, endpoint_place, is_placed, reply_place}
use Rattle.kp_conntrack.specs.declared.index.Index.{Index}
use Rattle.kp_conntrack.specs.Laid.{AreOf, Ascends, IsAged, IsFound, IsIndexed, IsLaid, entries_in, entry_at, kept_rows, no_entry}
use Rattle.kp_conntrack.proofs.Ages.{ascends_push, ascends_same, ascends_without}
use Rattle.kp_conntrack.proofs.Among.{found_in, in_either, in_last, in_left, in_without, map_same}

-- ---- What changes at a row

-- the first entry that passes is changed at its row
pub changed_at_row : (rows : List Entry) (p : Entry → Bool) (g : Entry → Entry) (kept : List ℕ) (row : ℕ)
    → row < length rows → IsApart kept → find (λ r. p (entry_at rows r)) kept ≡ Some row
    → map (entry_at (set rows row (g (entry_at rows row)))) kept ≡ change_first p g (map (entry_at rows) kept)
changed_at_row rows p g [] row within apart found = refl
changed_at_row rows p g (x ∷ xs) row within apart found =
    step (p (entry_at rows x)) (changed_at_row rows p g xs row within apart.1) found
  where
    others : (y : ℕ) → y ≢ row → entry_at (set rows row (g (entry_at rows row))) y ≡ entry_at rows y
    others y differs = get_or-set_other rows row y (g (entry_at rows row)) no_entry differs

    step : (b : Bool)
        → (find (λ r. p (entry_at rows r)) xs ≡ Some row → map (entry_at (set rows row (g (entry_at rows row)))) xs ≡ change_first p g (map (entry_at rows) xs))
        → cond b (Some x) (find (λ r. p (entry_at rows r)) xs) ≡ Some row
        → entry_at (set rows row (g (entry_at rows row))) x ∷ map (entry_at (set rows row (g (entry_at rows row)))) xs
        ≡ cond b (g (entry_at rows x) ∷ map (entry_at rows) xs) (entry_at rows x ∷ change_first p g (map (entry_at rows) xs))
    step true more here =
        let same : x ≡ row = cc in
        let first : entry_at (set rows row (g (entry_at rows row))) x ≡ g (entry_at rows x) =
        ap (entry_at (set rows row (g (entry_at rows row)))) same
        ∙ get_or-set_same rows row (g (entry_at rows row)) no_entry within
        ∙ ap (λ y. g (entry_at rows y)) (sym same) in
        let rest = map_same (entry_at (set rows row (g (entry_at rows row)))) (entry_at rows) xs
        (λ y found_y. others y (λ is. apart.0 (subst (λ z. IsIn z xs) (is ∙ sym same) found_y))) in
        λ i. first i ∷ rest i
    step false more there =
        let first = others x (λ is. apart.0 (subst (λ z. IsIn z xs) (sym is) (found_in (λ r. p (entry_at rows r)) xs row there).0)) in
        let rest = more there in
        λ i. first i ∷ rest i

-- ---- What stays

module _ (rows : List Entry) (order : Lists) (index : Index) (ages : Lists) (moment now row : ℕ) (laid : IsLaid rows order index moment) (in_kept : IsIn row (kept_rows order)) (later : moment ≤ now) (moved : IsMoved index.ages ages (age_list (entry_at rows row)) row) where
  abbrev new_rows : List Entry
  new_rows = set rows row (renewed now (entry_at rows row))

  abbrev age : ℕ
  age = age_list (entry_at rows row)

  row_in : row < length rows
  row_in = omega (arith, laid.ordered.within row in_kept, laid.len)

  here_is : entry_at new_rows row ≡ renewed now (entry_at rows row)
  here_is = get_or-set_same rows row (renewed now (entry_at rows row)) no_entry row_in

  other_is : (other : ℕ) → other ≢ row → entry_at new_rows other ≡ entry_at rows other
  other_is other differs = get_or-set_other rows row other (renewed now (entry_at rows row)) no_entry differs

  -- what an entry keeps when it is heard of
  stays : {X : Type 0} (f : Entry → X) → ((e : Entry) → f (renewed now e) ≡ f e) → (other : ℕ)
      → f (entry_at new_rows other) ≡ f (entry_at rows other)
  stays f same other =
      elim (cases_eq other row) [
        | inl is ↦ ap (λ r. f (entry_at new_rows r)) is ∙ ap f here_is ∙ same (entry_at rows row) ∙ ap (λ r. f (entry_at rows r)) (sym is)
        | inr differs ↦ ap f (other_is other differs)
      ]

  indexed : (place : Entry → Option ℕ) → ((e : Entry) → place (renewed now e) ≡ place e) → (lists : Lists)
      → IsIndexed rows (kept_rows order) place lists → IsIndexed new_rows (kept_rows order) place lists
  indexed place same lists is = record {
    sized = is.sized;
    here = λ b. is.here b ∙ (λ i. filter (λ r. is_placed b (sym (stays place same r) i)) (kept_rows order));
  }

  age_stays : (other : ℕ) → age_list (entry_at new_rows other) ≡ age_list (entry_at rows other)
  age_stays other = stays age_list (λ e. refl) other

  known_before : (other list : ℕ) → IsIn other (without row (rows_of index.ages list))
      → IsIn other (kept_rows order) × (age_list (entry_at new_rows other) ≡ list)
  known_before other list found =
      let is = laid.found.ages.known other list (IsIn-without row other (rows_of index.ages list) found).0 in
      (is.0, age_stays other ∙ is.1)

  known : (other list : ℕ) → IsIn other (rows_of ages list) → IsIn other (kept_rows order) × (age_list (entry_at new_rows other) ≡ list)
  known other list found =
      elim (cases_eq list age) [
        | inl is ↦
            elim (in_either other row (without row (rows_of index.ages age)) (subst (IsIn other) (ap (rows_of ages) is ∙ moved.last) found)) [
              | inl there ↦ known_before other list (subst (λ l. IsIn other (without row (rows_of index.ages l))) (sym is) there)
              | inr same ↦ (subst (λ r. IsIn r (kept_rows order)) same in_kept, ap (λ r. age_list (entry_at new_rows r)) (sym same) ∙ age_stays row ∙ sym is)
            ]
        | inr differs ↦ known_before other list (subst (IsIn other) (moved.others list differs) found)
      ]

  listed_in : (other list : ℕ) → age_list (entry_at rows other) ≡ list → IsIn other (kept_rows order) → IsIn other (rows_of ages list)
  listed_in other list aged found =
      elim (cases_eq other row) [
        | inl same ↦
            let is : age ≡ list = ap (λ r. age_list (entry_at rows r)) (sym same) ∙ aged in
            subst (λ l. IsIn other (rows_of ages l)) is (subst (IsIn other) (sym moved.last) (subst (λ r. IsIn r (without row (rows_of index.ages age) ++ row ∷ [])) (sym same) (in_last row _)))
        | inr differs ↦
            let before = in_without row other (rows_of index.ages list) (subst (λ l. IsIn other (rows_of index.ages l)) aged (laid.found.ages.listed other found)) differs in
            elim (cases_eq list age) [
              | inl is ↦ subst (λ l. IsIn other (rows_of ages l)) (sym is) (subst (IsIn other) (sym moved.last) (in_left other _ (row ∷ []) (subst (λ l. IsIn other (without row (rows_of index.ages l))) is before)))
              | inr elsewhere ↦ subst (IsIn other) (sym (moved.others list elsewhere)) before
            ]
      ]

  ascending_before : (list : ℕ) → Ascends new_rows (without row (rows_of index.ages list))
  ascending_before list =
      ascends_same rows new_rows (without row (rows_of index.ages list))
      (λ x found. ap (λ (e : Entry). e.latest) (other_is x (IsIn-without row x (rows_of index.ages list) found).1))
      (ascends_without rows row (rows_of index.ages list) (laid.found.ages.ascending list))

  past_before : (list x : ℕ) → IsIn x (without row (rows_of index.ages list)) → (entry_at new_rows x).latest ≤ (entry_at new_rows row).latest
  past_before list x found =
      let before = IsIn-without row x (rows_of index.ages list) found in
      let past = laid.past x (laid.found.ages.known x list before.0).0 in
      omega (arith, ap (λ (e : Entry). e.latest) (other_is x before.1), ap (λ (e : Entry). e.latest) here_is, past, later)

  ascending : (list : ℕ) → Ascends new_rows (rows_of ages list)
  ascending list =
      elim (cases_eq list age) [
        | inl is ↦
            subst (λ l. Ascends new_rows (rows_of ages l)) (sym is)
            (subst (Ascends new_rows) (sym moved.last) (ascends_push new_rows row (without row (rows_of index.ages age)) (ascending_before age) (past_before age)))
        | inr differs ↦ subst (Ascends new_rows) (sym (moved.others list differs)) (ascending_before list)
      ]

  aged : IsAged new_rows (kept_rows order) ages
  aged = record {
    sized = record {
      count = moved.sized.count ∙ laid.found.ages.sized.count;
      rows = moved.sized.rows ∙ laid.found.ages.sized.rows;
    };
    known = known;
    listed = λ other found. listed_in other (age_list (entry_at new_rows other)) (sym (age_stays other)) found;
    ascending = ascending;
  }

  past : (other : ℕ) → IsIn other (kept_rows order) → (entry_at new_rows other).latest ≤ now
  past other found =
      elim (cases_eq other row) [
        | inl same ↦ omega (arith, ap (λ r. (entry_at new_rows r).latest) same, ap (λ (e : Entry). e.latest) here_is)
        | inr differs ↦ omega (arith, ap (λ (e : Entry). e.latest) (other_is other differs), laid.past other found, later)
      ]

  pub laid_renewed : IsLaid new_rows order (record index { ages = ages }) now
  laid_renewed = record {
    len = length-set rows row (renewed now (entry_at rows row)) ∙ laid.len;
    ordered = laid.ordered;
    found = record {
      ages = aged;
      connections = indexed connection_place (λ e. refl) _ laid.found.connections;
      replies = indexed reply_place (λ e. refl) _ laid.found.replies;
      endpoints = indexed endpoint_place (λ e. refl) _ laid.found.endpoints;
    };
    past = past;
  }

  pub entries_renewed : (p : Entry → Bool) → find (λ r. p (entry_at rows r)) (kept_rows order) ≡ Some row
      → entries_in new_rows order ≡ change_first p (renewed now) (entries_in rows order)
  entries_renewed p found = changed_at_row rows p (renewed now) (kept_rows order) row row_in laid.ordered.apart found
