-- Rows that are freed, one after the other.
use Rattle.std.proofs.Common.{◌≡◌, ℕ, ◌<◌, Bool, true, false, not, List, [], ◌∷◌, map, filter, length, cond, slice_get, Option, Some, None, refl, sym, ap, ◌∙◌, subst, inl, inr, arith}
use Rattle.std.specs.List.{find}
use Rattle.std.proofs.lemmas.Bool.{false≢true}
use Rattle.futures.specs.LinkedLists.{IsIn}
use Rattle.kp_base.specs.declared.key.Endpoint.{Endpoint}
use Rattle.kp_links.specs.Lists.{IsMoved, Lists, rows_of}
use Rattle.kp_track_defs.specs.declared.flow.Entry.{Entry}
use Rattle.kp_track_defs.specs.Kept.{is_sent_to}
use Rattle.kp_conntrack.specs.Buckets.{endpoint_bucket, endpoint_place}
use Rattle.kp_conntrack.specs.declared.index.Index.{Index}
use Rattle.kp_conntrack.specs.Laid.{IsLaid, IsRemoved, entries_in, entry_at, kept_rows, passes_at}
use Rattle.kp_conntrack.proofs.Among.{dead_without}
use Rattle.kp_conntrack.proofs.Dead.{all_pass}
use Rattle.kp_conntrack.proofs.Found.{endpoint_here, found_here, found_kept}
use Rattle.kp_conntrack.proofs.Removed.{entries_removed, fewer_kept, laid_removed}

-- a list without a first element has none
pub no_first : (xs : List ℕ) → None ≡ slice_get xs 0 → xs ≡ []
no_first [] h = refl
no_first (x ∷ xs) h = cc

-- where nothing is found, nothing passes
pub unfound_fails : (q : ℕ → Bool) (xs : List ℕ) → find q xs ≡ None → (x : ℕ) → IsIn x xs → q x ≡ false
unfound_fails q [] none x found = absurd found
unfound_fails q (y ∷ ys) none x found = step (q y) refl none (unfound_fails q ys)
  where
    step : (b : Bool) → q y ≡ b → cond b (Some y) (find q ys) ≡ None
        → (find q ys ≡ None → (x : ℕ) → IsIn x ys → q x ≡ false) → q x ≡ false
    step true is none more = cc
    step false is none more = by_place found
      where
        by_place : IsIn x (y ∷ ys) → q x ≡ false
        by_place (inl same) = ap q (sym same) ∙ is
        by_place (inr there) = more none x there

module _ (rows : List Entry) (order new_order : Lists) (index new_index : Index) (row : ℕ) (moved : IsMoved order new_order 1 row) (removed : IsRemoved index new_index row) (m : ℕ) (laid : IsLaid rows order index m) (in_kept : IsIn row (kept_rows order)) where
  pub still_laid : IsLaid rows new_order new_index m
  still_laid = laid_removed rows order new_order index new_index m row laid in_kept moved removed

  pub one_fewer : length (kept_rows new_order) < length (kept_rows order)
  one_fewer = omega (arith, fewer_kept rows order new_order index new_index m row laid in_kept moved removed)

  pub same_left : (w : Entry → Bool) → w (entry_at rows row) ≡ false
      → filter w (entries_in rows new_order) ≡ filter w (entries_in rows order)
  same_left w fails =
      ap (filter w) (entries_removed rows order new_order index new_index m row laid in_kept moved removed)
      ∙ dead_without (entry_at rows) w row (kept_rows order) fails

-- ---- What was sent to an endpoint

module _ (rows : List Entry) (order : Lists) (index : Index) (m : ℕ) (laid : IsLaid rows order index m) (to : Endpoint) (b : ℕ) (bucket : b ≡ endpoint_bucket to) where
  pub sent_found : (o : Option ℕ) → o ≡ find (passes_at (is_sent_to to) rows) (rows_of index.endpoints b)
      → find (λ row. is_sent_to to (entry_at rows row)) (kept_rows order) ≡ o
  sent_found o found =
      sym (found_here rows order index m laid endpoint_place index.endpoints b (is_sent_to to)
      (λ e h. endpoint_here to e h ∙ ap (λ (n : ℕ). Some n) (sym bucket)) laid.found.endpoints)
      ∙ sym found

  pub sent_kept : (row : ℕ) → Some row ≡ find (passes_at (is_sent_to to) rows) (rows_of index.endpoints b)
      → IsIn row (kept_rows order) × (not (is_sent_to to (entry_at rows row)) ≡ false)
  sent_kept row found =
      let is = found_kept rows order index m laid (is_sent_to to) row (sent_found (Some row) found) in
      (is.0, ap not is.1)

  pub none_sent : None ≡ find (passes_at (is_sent_to to) rows) (rows_of index.endpoints b)
      → filter (λ (e : Entry). not (is_sent_to to e)) (entries_in rows order) ≡ entries_in rows order
  none_sent none =
      all_pass (entry_at rows) (λ (e : Entry). not (is_sent_to to e)) (kept_rows order)
      (λ row found. ap not (unfound_fails (λ row. is_sent_to to (entry_at rows row)) (kept_rows order) (sent_found None none) row found))

-- where nothing is kept, any moment will do
pub laid_none : (rows : List Entry) (order : Lists) (index : Index) (n m : ℕ) → IsLaid rows order index n
    → kept_rows order ≡ [] → IsLaid rows order index m
laid_none rows order index n m laid none = record {
  len = laid.len;
  ordered = laid.ordered;
  found = laid.found;
  past = λ row found. absurd (subst (IsIn row) none found);
}
