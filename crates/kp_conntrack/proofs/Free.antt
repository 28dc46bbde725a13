-- Rows that are all free.
use Rattle.std.proofs.Common.{◌≡◌, ◌≢◌, ◌⊎◌, ℕ, ◌+◌, ◌<◌, List, [], ◌∷◌, ◌++◌, map, filter, length, Option, refl, sym, ap, ◌∙◌, subst, inl, inr, arith, length-append}
use Rattle.std.proofs.lemmas.Bool.{cases_eq}
use Rattle.futures.specs.LinkedLists.{IsApart, IsIn}
use Rattle.kp_links.specs.Lists.{AreEmpty, IsPushed, Lists, rows_of}
use Rattle.kp_track_defs.specs.declared.flow.Entry.{Entry}
use Rattle.kp_conntrack.specs.Buckets.{age_list, is_placed}
use Rattle.kp_conntrack.specs.declared.index.Index.{Index}
use Rattle.kp_conntrack.specs.Laid.{AllFree, AreOf, Ascends, HasNone, IsAged, IsIndexed, IsLaid, IsOrdered, entries_in, entry_at, free_rows, kept_rows}
use Rattle.kp_conntrack.proofs.Among.{in_either}

-- one more free row
pub free_push : (order new_order : Lists) (count row : ℕ)
    → AreOf order 2 count × (kept_rows order ≡ []) × (length (free_rows order) ≡ row) × ((list other : ℕ) → IsIn other (rows_of order list) → other < row)
    → IsPushed order new_order 1 row
    → AreOf new_order 2 count × (kept_rows new_order ≡ []) × (length (free_rows new_order) ≡ row + 1) × ((list other : ℕ) → IsIn other (rows_of new_order list) → other < row + 1)
free_push order new_order count row before pushed = (
  record { count = pushed.sized.count ∙ before.0.count; rows = pushed.sized.rows ∙ before.0.rows },
  pushed.others 0 (λ same. cc) ∙ before.1,
  omega (arith, ap length pushed.last, length-append (rows_of order 1) (row ∷ []), before.2),
  λ list other found.
      elim (cases_eq list 1) [
        | inl is ↦
            elim (in_either other row (rows_of order 1) (subst (IsIn other) (ap (rows_of new_order) is ∙ pushed.last) found)) [
              | inl there ↦ let less = before.3 1 other there in omega (arith, less)
              | inr same ↦ omega (arith, same)
            ]
        | inr differs ↦ let less = before.3 list other (subst (IsIn other) (pushed.others list differs) found) in omega (arith, less)
      ],
)

module _ (rows : List Entry) (order : Lists) (index : Index) (len : length rows ≡ 65536) (free : AllFree order 65536) (none : HasNone index) where
  not_kept : (row : ℕ) → ¬ IsIn row (kept_rows order)
  not_kept row found = subst (IsIn row) free.none found

  ordered : IsOrdered order
  ordered = record {
    sized = free.sized;
    apart = subst IsApart (sym free.none) tt;
    split = λ row found. absurd (not_kept row found);
    total = omega (arith, ap length free.none, free.all);
    within = λ row found. absurd (not_kept row found);
  }

  of_empty : (lists : Lists) (count number : ℕ) → AreEmpty lists count number → AreOf lists count number
  of_empty lists count number empty = record { count = empty.count; rows = empty.rows }

  indexed : (place : Entry → Option ℕ) (lists : Lists) → AreEmpty lists 262144 65536 → IsIndexed rows (kept_rows order) place lists
  indexed place lists empty = record {
    sized = of_empty lists 262144 65536 empty;
    here = λ b. empty.empty b ∙ sym (ap (filter (λ row. is_placed b (place (entry_at rows row)))) free.none);
  }

  aged : IsAged rows (kept_rows order) index.ages
  aged = record {
    sized = of_empty index.ages 2 65536 none.ages;
    known = λ row list found. absurd (subst (IsIn row) (none.ages.empty list) found);
    listed = λ row found. absurd (not_kept row found);
    ascending = λ list. subst (Ascends rows) (sym (none.ages.empty list)) tt;
  }

  pub laid_new : IsLaid rows order index 0
  laid_new = record {
    len = len;
    ordered = ordered;
    found = record {
      ages = aged;
      connections = indexed _ _ none.connections;
      replies = indexed _ _ none.replies;
      endpoints = indexed _ _ none.endpoints;
    };
    past = λ row found. absurd (not_kept row found);
  }

  pub entries_new : entries_in rows order ≡ []
  entries_new = ap (map (entry_at rows)) free.none
