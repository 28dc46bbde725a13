-- A free row becomes kept.
use Rattle.std.proofs.Common.{◌≡◌, ◌≢◌, ◌⊎◌, ℕ, ◌+◌, ◌<◌, ◌≤◌, ◌==◌, Bool, true, false, List, [], ◌∷◌, ◌++◌, map, filter, length, set, cond, slice_get, Option, Some, None, refl, sym, ap, ◌∙◌, subst, inl, inr, arith, eq-eqb, length-append, length-set, get_or-set_same, get_or-set_other}
use Rattle.std.proofs.lemmas.Bool.{cases_eq, eqb-true}
use Rattle.std.proofs.lemmas.List.{append-nil}
use Rattle.futures.specs.LinkedLists.{IsApart, IsIn, without}
use Rattle.futures.proofs.LinkLemmas.{IsIn-without, length-without, without_absent}
use Rattle.kp_links.specs.Lists.{IsMoved, Lists, rows_of}
use Rattle.kp_track_defs.specs.declared.flow.Entry.{Entry}
use Rattle.kp_conntrack.specs.Buckets.{age_list, connection_place, endpoint_place, is_placed, reply_place}
use Rattle.kp_conntrack.specs.declared.index.Index.{Index}
use Rattle.kp_conntrack.specs.Laid.{AreOf, Ascends, IsAged, IsFound, IsIndexed, IsLaid, IsOrdered, IsPlaced, IsPut, entries_in, entry_at, free_rows, kept_rows, no_entry}
use Rattle.kp_conntrack.proofs.Ages.{ascends_push, ascends_same}
use Rattle.kp_conntrack.proofs.Among.{apart_push, filter_last, filter_same, in_either, in_filter, in_last, in_left, map_last, map_same}

-- the first of some rows is one of them
pub first_in : (row : ℕ) (xs : List ℕ) → slice_get xs 0 ≡ Some row → IsIn row xs
first_in row [] first = cc
first_in row (x ∷ xs) first = inl cc

none_equal : (b l : ℕ) → b ≢ l → (l == b) ≡ false
none_equal b l differs = by_test (l == b) refl
  where
    by_test : (t : Bool) → (l == b) ≡ t → t ≡ false
    by_test true is = absurd (differs (sym (eqb-true l b is)))
    by_test false is = refl

module _ (rows : List Entry) (order new_order : Lists) (index new_index : Index) (moment row : ℕ) (entry : Entry) (laid : IsLaid rows order index moment) (is_free : IsIn row (free_rows order)) (absent : ¬ IsIn row (kept_rows order)) (free_apart : IsApart (free_rows order)) (row_in : row < 65536) (latest : entry.latest ≡ moment) (moved : IsMoved order new_order 0 row) (placed : IsPlaced index new_index entry row) where
  abbrev new_rows : List Entry
  new_rows = set rows row entry

  kept_is : kept_rows new_order ≡ kept_rows order ++ row ∷ []
  kept_is = moved.last ∙ ap (λ xs. xs ++ row ∷ []) (without_absent row (kept_rows order) absent)

  free_is : free_rows new_order ≡ without row (free_rows order)
  free_is = moved.others 1 (λ same. cc)

  here_is : entry_at new_rows row ≡ entry
  here_is = get_or-set_same rows row entry no_entry (omega (arith, row_in, laid.len))

  other_is : (other : ℕ) → IsIn other (kept_rows order) → entry_at new_rows other ≡ entry_at rows other
  other_is other found = get_or-set_other rows row other entry no_entry (λ same. absent (subst (λ r. IsIn r (kept_rows order)) same found))

  kept_before : (other : ℕ) → IsIn other (kept_rows new_order) → IsIn other (kept_rows order) ⊎ (row ≡ other)
  kept_before other found = in_either other row (kept_rows order) (subst (IsIn other) kept_is found)

  kept_after : (other : ℕ) → IsIn other (kept_rows order) → IsIn other (kept_rows new_order)
  kept_after other found = subst (IsIn other) (sym kept_is) (in_left other (kept_rows order) (row ∷ []) found)

  row_kept : IsIn row (kept_rows new_order)
  row_kept = subst (IsIn row) (sym kept_is) (in_last row (kept_rows order))

  ordered : IsOrdered new_order
  ordered = record {
    sized = record {
      count = moved.sized.count ∙ laid.ordered.sized.count;
      rows = moved.sized.rows ∙ laid.ordered.sized.rows;
    };
    apart = subst IsApart (sym kept_is) (apart_push row (kept_rows order) laid.ordered.apart absent);
    split = λ other found freed.
        let before = IsIn-without row other (free_rows order) (subst (IsIn other) free_is freed) in
        elim (kept_before other found) [
          | inl there ↦ laid.ordered.split other there before.0
          | inr same ↦ before.1 (sym same)
        ];
    total =
        let fewer = length-without row (free_rows order) free_apart is_free in
        let total = laid.ordered.total in
        omega (arith, ap length kept_is, ap length free_is, length-append (kept_rows order) (row ∷ []), fewer, total);
    within = λ other found.
        elim (kept_before other found) [
          | inl there ↦ laid.ordered.within other there
          | inr same ↦ subst (λ r. r < 65536) same row_in
        ];
  }

  -- ---- By a place

  module _ (place : Entry → Option ℕ) (lists new_lists : Lists) (is : IsIndexed rows (kept_rows order) place lists) where
    abbrev at : ℕ → ℕ → Bool
    at b r = is_placed b (place (entry_at rows r))

    abbrev new_at : ℕ → ℕ → Bool
    new_at b r = is_placed b (place (entry_at new_rows r))

    absent_here : (b : ℕ) → ¬ IsIn row (rows_of lists b)
    absent_here b found = absent (in_filter (at b) row (kept_rows order) (subst (IsIn row) (is.here b) found))

    now_here : (b : ℕ) → filter (new_at b) (kept_rows new_order) ≡ rows_of lists b ++ cond (is_placed b (place entry)) (row ∷ []) []
    now_here b =
        ap (filter (new_at b)) kept_is ∙ filter_last (new_at b) (kept_rows order) row
        ∙ (λ i. (filter_same (new_at b) (at b) (kept_rows order) (λ x found. ap (λ e. is_placed b (place e)) (other_is x found)) ∙ sym (is.here b)) i
        ++ cond (is_placed b (place (here_is i))) (row ∷ []) [])

    put_here : (o : Option ℕ) → place entry ≡ o → IsPut lists new_lists o row → (b : ℕ)
        → rows_of new_lists b ≡ rows_of lists b ++ cond (is_placed b o) (row ∷ []) []
    put_here None at_none put b = ap (λ s. rows_of s b) put ∙ sym (append-nil (rows_of lists b))
    put_here (Some l) at_some put b =
        elim (cases_eq b l) [
          | inl same ↦
              ap (rows_of new_lists) same ∙ put.last
              ∙ ap (λ xs. xs ++ row ∷ []) (without_absent row (rows_of lists l) (absent_here l) ∙ ap (rows_of lists) (sym same))
              ∙ sym (λ i. rows_of lists b ++ cond (eq-eqb l b (sym same) i) (row ∷ []) [])
          | inr differs ↦
              put.others b differs ∙ without_absent row (rows_of lists b) (absent_here b)
              ∙ sym (append-nil (rows_of lists b))
              ∙ sym (λ i. rows_of lists b ++ cond (none_equal b l differs i) (row ∷ []) [])
        ]

    put_sized : (o : Option ℕ) → IsPut lists new_lists o row → AreOf new_lists 262144 65536
    put_sized None put = subst (λ s. AreOf s 262144 65536) (sym put) is.sized
    put_sized (Some l) put = record {
      count = put.sized.count ∙ is.sized.count;
      rows = put.sized.rows ∙ is.sized.rows;
    }

    indexed : IsPut lists new_lists (place entry) row → IsIndexed new_rows (kept_rows new_order) place new_lists
    indexed put = record {
      sized = put_sized (place entry) put;
      here = λ b. put_here (place entry) refl put b ∙ sym (now_here b);
    }

  -- ---- By age

  abbrev age : ℕ
  age = age_list entry

  absent_age : (list : ℕ) → ¬ IsIn row (rows_of index.ages list)
  absent_age list found = absent (laid.found.ages.known row list found).0

  aged_last : rows_of new_index.ages age ≡ rows_of index.ages age ++ row ∷ []
  aged_last = placed.ages.last ∙ ap (λ xs. xs ++ row ∷ []) (without_absent row (rows_of index.ages age) (absent_age age))

  aged_others : (list : ℕ) → list ≢ age → rows_of new_index.ages list ≡ rows_of index.ages list
  aged_others list differs = placed.ages.others list differs ∙ without_absent row (rows_of index.ages list) (absent_age list)

  known_before : (other list : ℕ) → IsIn other (rows_of index.ages list)
      → IsIn other (kept_rows new_order) × (age_list (entry_at new_rows other) ≡ list)
  known_before other list found =
      let is = laid.found.ages.known other list found in
      (kept_after other is.0, ap age_list (other_is other is.0) ∙ is.1)

  known : (other list : ℕ) → IsIn other (rows_of new_index.ages list)
      → IsIn other (kept_rows new_order) × (age_list (entry_at new_rows other) ≡ list)
  known other list found =
      elim (cases_eq list age) [
        | inl is ↦
            elim (in_either other row (rows_of index.ages age) (subst (IsIn other) (ap (rows_of new_index.ages) is ∙ aged_last) found)) [
              | inl there ↦ known_before other list (subst (λ l. IsIn other (rows_of index.ages l)) (sym is) there)
              | inr same ↦ (subst (λ r. IsIn r (kept_rows new_order)) same row_kept, ap (λ r. age_list (entry_at new_rows r)) (sym same) ∙ ap age_list here_is ∙ sym is)
            ]
        | inr differs ↦ known_before other list (subst (IsIn other) (aged_others list differs) found)
      ]

  listed_before : (other list : ℕ) → IsIn other (rows_of index.ages list) → IsIn other (rows_of new_index.ages list)
  listed_before other list found =
      elim (cases_eq list age) [
        | inl is ↦ subst (λ l. IsIn other (rows_of new_index.ages l)) (sym is) (subst (IsIn other) (sym aged_last) (in_left other _ (row ∷ []) (subst (λ l. IsIn other (rows_of index.ages l)) is found)))
        | inr differs ↦ subst (IsIn other) (sym (aged_others list differs)) found
      ]

  listed : (other : ℕ) → IsIn other (kept_rows new_order) → IsIn other (rows_of new_index.ages (age_list (entry_at new_rows other)))
  listed other found =
      elim (kept_before other found) [
        | inl there ↦
            subst (λ l. IsIn other (rows_of new_index.ages l)) (sym (ap age_list (other_is other there)))
            (listed_before other (age_list (entry_at rows other)) (laid.found.ages.listed other there))
        | inr same ↦
            subst (λ r. IsIn r (rows_of new_index.ages (age_list (entry_at new_rows r)))) same
            (subst (λ l. IsIn row (rows_of new_index.ages l)) (sym (ap age_list here_is)) (subst (IsIn row) (sym aged_last) (in_last row _)))
      ]

  ascending_before : (list : ℕ) → Ascends new_rows (rows_of index.ages list)
  ascending_before list =
      ascends_same rows new_rows (rows_of index.ages list)
      (λ x found. ap (λ (e : Entry). e.latest) (other_is x (laid.found.ages.known x list found).0))
      (laid.found.ages.ascending list)

  past_before : (list x : ℕ) → IsIn x (rows_of index.ages list) → (entry_at new_rows x).latest ≤ (entry_at new_rows row).latest
  past_before list x found =
      let is = laid.found.ages.known x list found in
      omega (arith, ap (λ (e : Entry). e.latest) (other_is x is.0), ap (λ (e : Entry). e.latest) here_is, laid.past x is.0, latest)

  ascending : (list : ℕ) → Ascends new_rows (rows_of new_index.ages list)
  ascending list =
      elim (cases_eq list age) [
        | inl is ↦
            subst (λ l. Ascends new_rows (rows_of new_index.ages l)) (sym is)
            (subst (Ascends new_rows) (sym aged_last) (ascends_push new_rows row (rows_of index.ages age) (ascending_before age) (past_before age)))
        | inr differs ↦ subst (Ascends new_rows) (sym (aged_others list differs)) (ascending_before list)
      ]

  aged : IsAged new_rows (kept_rows new_order) new_index.ages
  aged = record {
    sized = record {
      count = placed.ages.sized.count ∙ laid.found.ages.sized.count;
      rows = placed.ages.sized.rows ∙ laid.found.ages.sized.rows;
    };
    known = known;
    listed = listed;
    ascending = ascending;
  }

  past : (other : ℕ) → IsIn other (kept_rows new_order) → (entry_at new_rows other).latest ≤ moment
  past other found =
      elim (kept_before other found) [
        | inl there ↦ omega (arith, ap (λ (e : Entry). e.latest) (other_is other there), laid.past other there)
        | inr same ↦ omega (arith, ap (λ r. (entry_at new_rows r).latest) same, ap (λ (e : Entry). e.latest) here_is, latest)
      ]

  pub laid_added : IsLaid new_rows new_order new_index moment
  laid_added = record {
    len = length-set rows row entry ∙ laid.len;
    ordered = ordered;
    found = record {
      ages = aged;
      connections = indexed connection_place _ _ laid.found.connections placed.connections;
      replies = indexed reply_place _ _ laid.found.replies placed.replies;
      endpoints = indexed endpoint_place _ _ laid.found.endpoints placed.endpoints;
    };
    past = past;
  }

  pub entries_added : entries_in new_rows new_order ≡ entries_in rows order ++ entry ∷ []
  entries_added =
      ap (map (entry_at new_rows)) kept_is ∙ map_last (entry_at new_rows) (kept_rows order) row
      ∙ (λ i. map_same (entry_at new_rows) (entry_at rows) (kept_rows order) other_is i ++ here_is i ∷ [])
