-- A kept row becomes free.
use Rattle.std.proofs.Common.{◌≡◌, ◌≢◌, ◌⊎◌, ℕ, ◌+◌, ◌<◌, ◌==◌, Bool, List, [], ◌∷◌, ◌++◌, map, filter, length, Option, refl, sym, ap, ◌∙◌, subst, inl, inr, arith, length-append}
use Rattle.futures.specs.LinkedLists.{IsApart, IsIn, without}
use Rattle.futures.proofs.LinkLemmas.{IsIn-without, length-without, without_absent}
use Rattle.kp_links.specs.Lists.{IsMoved, IsUnlinked, Lists, rows_of}
use Rattle.kp_track_defs.specs.declared.flow.Entry.{Entry}
use Rattle.kp_conntrack.specs.Buckets.{age_list, connection_place, endpoint_place, is_placed, reply_place}
use Rattle.kp_conntrack.specs.declared.index.Index.{Index}
use Rattle.kp_conntrack.specs.Laid.{AreOf, Ascends, IsAged, IsFound, IsIndexed, IsLaid, IsOrdered, IsRemoved, entries_in, entry_at, free_rows, kept_rows}
use Rattle.kp_conntrack.proofs.Ages.{ascends_without}
use Rattle.kp_conntrack.proofs.Among.{apart_without, in_either, in_without, without_filter}

module _ (rows : List Entry) (order new_order : Lists) (index new_index : Index) (moment row : ℕ) (laid : IsLaid rows order index moment) (in_kept : IsIn row (kept_rows order)) (moved : IsMoved order new_order 1 row) (removed : IsRemoved index new_index row) where
  kept_is : kept_rows new_order ≡ without row (kept_rows order)
  kept_is = moved.others 0 (λ same. cc)

  free_is : free_rows new_order ≡ free_rows order ++ row ∷ []
  free_is = moved.last ∙ ap (λ xs. xs ++ row ∷ []) (without_absent row (free_rows order) (laid.ordered.split row in_kept))

  kept_before : (other : ℕ) → IsIn other (kept_rows new_order) → IsIn other (kept_rows order) × (other ≢ row)
  kept_before other found = IsIn-without row other (kept_rows order) (subst (IsIn other) kept_is found)

  kept_after : (other : ℕ) → IsIn other (kept_rows order) → other ≢ row → IsIn other (kept_rows new_order)
  kept_after other found differs = subst (IsIn other) (sym kept_is) (in_without row other (kept_rows order) found differs)

  ordered : IsOrdered new_order
  ordered = record {
    sized = record {
      count = moved.sized.count ∙ laid.ordered.sized.count;
      rows = moved.sized.rows ∙ laid.ordered.sized.rows;
    };
    apart = subst IsApart (sym kept_is) (apart_without row (kept_rows order) laid.ordered.apart);
    split = λ other found is_free.
        let before = kept_before other found in
        elim (in_either other row (free_rows order) (subst (IsIn other) free_is is_free)) [
          | inl there ↦ laid.ordered.split other before.0 there
          | inr same ↦ before.1 (sym same)
        ];
    total =
        let fewer = length-without row (kept_rows order) laid.ordered.apart in_kept in
        let total = laid.ordered.total in
        omega (arith, ap length kept_is, ap length free_is, length-append (free_rows order) (row ∷ []), fewer, total);
    within = λ other found. laid.ordered.within other (kept_before other found).0;
  }

  indexed : (place : Entry → Option ℕ) (lists new_lists : Lists) → IsIndexed rows (kept_rows order) place lists
      → IsUnlinked lists new_lists row → IsIndexed rows (kept_rows new_order) place new_lists
  indexed place lists new_lists is unlinked = record {
    sized = record {
      count = unlinked.sized.count ∙ is.sized.count;
      rows = unlinked.sized.rows ∙ is.sized.rows;
    };
    here = λ b.
        unlinked.left b ∙ ap (without row) (is.here b)
        ∙ without_filter (λ r. is_placed b (place (entry_at rows r))) row (kept_rows order)
        ∙ ap (filter (λ r. is_placed b (place (entry_at rows r)))) (sym kept_is);
  }

  aged : IsAged rows (kept_rows new_order) new_index.ages
  aged = record {
    sized = record {
      count = removed.ages.sized.count ∙ laid.found.ages.sized.count;
      rows = removed.ages.sized.rows ∙ laid.found.ages.sized.rows;
    };
    known = λ other list found.
        let before = IsIn-without row other (rows_of index.ages list) (subst (IsIn other) (removed.ages.left list) found) in
        let is = laid.found.ages.known other list before.0 in
        (kept_after other is.0 before.1, is.1);
    listed = λ other found.
        let before = kept_before other found in
        subst (IsIn other) (sym (removed.ages.left (age_list (entry_at rows other))))
        (in_without row other _ (laid.found.ages.listed other before.0) before.1);
    ascending = λ list.
        subst (Ascends rows) (sym (removed.ages.left list)) (ascends_without rows row (rows_of index.ages list) (laid.found.ages.ascending list));
  }

  pub laid_removed : IsLaid rows new_order new_index moment
  laid_removed = record {
    len = laid.len;
    ordered = ordered;
    found = record {
      ages = aged;
      connections = indexed connection_place _ _ laid.found.connections removed.connections;
      replies = indexed reply_place _ _ laid.found.replies removed.replies;
      endpoints = indexed endpoint_place _ _ laid.found.endpoints removed.endpoints;
    };
    past = λ other found. laid.past other (kept_before other found).0;
  }

  pub entries_removed : entries_in rows new_order ≡ map (entry_at rows) (without row (kept_rows order))
  entries_removed = ap (map (entry_at rows)) kept_is

  -- one row fewer is kept
  pub fewer_kept : length (kept_rows new_order) + 1 ≡ length (kept_rows order)
  fewer_kept = ap (λ xs. length xs + 1) kept_is ∙ length-without row (kept_rows order) laid.ordered.apart in_kept
