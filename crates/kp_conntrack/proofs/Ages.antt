-- Rows in the order in which they were heard of.
use Rattle.std.proofs.Common.{◌≡◌, ◌≢◌, ℕ, zero, suc, ◌==◌, ◌≤◌, Bool, true, false, not, List, [], ◌∷◌, ◌++◌, cond, Option, Some, slice_get, refl, sym, ap, ◌∙◌, subst, inl, inr, arith}
use Rattle.futures.specs.LinkedLists.{IsIn, without}
use Rattle.futures.proofs.LinkLemmas.{IsIn-without}
use Rattle.kp_track_defs.specs.declared.flow.Entry.{Entry}
use Rattle.kp_conntrack.specs.Laid.{Ascends, IsFirstHeard, entry_at}

module _ (rows : List Entry) where
  first_without : (row key : ℕ) (xs : List ℕ) → IsFirstHeard rows row xs → IsFirstHeard rows row (without key xs)
  first_without row key [] first = first
  first_without row key (x ∷ xs) first = step (not (x == key)) (first_without row key xs first.1)
    where
      step : (b : Bool) → IsFirstHeard rows row (without key xs) → IsFirstHeard rows row (cond b (x ∷ without key xs) (without key xs))
      step true more = (first.0, more)
      step false more = more

  pub ascends_without : (key : ℕ) (xs : List ℕ) → Ascends rows xs → Ascends rows (without key xs)
  ascends_without key [] up = up
  ascends_without key (x ∷ xs) up = step (not (x == key)) (ascends_without key xs up.1)
    where
      step : (b : Bool) → Ascends rows (without key xs) → Ascends rows (cond b (x ∷ without key xs) (without key xs))
      step true more = (first_without x key xs up.0, more)
      step false more = more

  first_push : (row key : ℕ) (xs : List ℕ) → IsFirstHeard rows row xs
      → (entry_at rows row).latest ≤ (entry_at rows key).latest → IsFirstHeard rows row (xs ++ key ∷ [])
  first_push row key [] first last = (last, tt)
  first_push row key (x ∷ xs) first last = (first.0, first_push row key xs first.1 last)

  pub ascends_push : (key : ℕ) (xs : List ℕ) → Ascends rows xs
      → ((x : ℕ) → IsIn x xs → (entry_at rows x).latest ≤ (entry_at rows key).latest) → Ascends rows (xs ++ key ∷ [])
  ascends_push key [] up last = (tt, tt)
  ascends_push key (x ∷ xs) up last =
      (first_push x key xs up.0 (last x (inl refl)), ascends_push key xs up.1 (λ y found. last y (inr found)))

  first_of : (row : ℕ) (xs : List ℕ) → IsFirstHeard rows row xs → (x : ℕ) → IsIn x xs
      → (entry_at rows row).latest ≤ (entry_at rows x).latest
  first_of row [] first x found = absurd found
  first_of row (y ∷ xs) first x (inl same) = subst (λ z. (entry_at rows row).latest ≤ (entry_at rows z).latest) same first.0
  first_of row (y ∷ xs) first x (inr found) = first_of row xs first.1 x found

  -- no row was heard of before the first
  pub first_least : (xs : List ℕ) → Ascends rows xs → (first : ℕ) → slice_get xs 0 ≡ Some first → (x : ℕ) → IsIn x xs
      → (entry_at rows first).latest ≤ (entry_at rows x).latest
  first_least [] up first is x found = absurd found
  first_least (y ∷ xs) up first is x found =
      let same : y ≡ first = cc in
      subst (λ z. (entry_at rows z).latest ≤ (entry_at rows x).latest) same (by_place found)
    where
      by_place : IsIn x (y ∷ xs) → (entry_at rows y).latest ≤ (entry_at rows x).latest
      by_place (inl here) = subst (λ z. (entry_at rows y).latest ≤ (entry_at rows z).latest) here (omega arith)
      by_place (inr there) = first_of y xs up.0 x there

-- rows with the same moments
module _ (rows new_rows : List Entry) where
  first_same : (row : ℕ) (xs : List ℕ) → (entry_at new_rows row).latest ≡ (entry_at rows row).latest
      → ((x : ℕ) → IsIn x xs → (entry_at new_rows x).latest ≡ (entry_at rows x).latest)
      → IsFirstHeard rows row xs → IsFirstHeard new_rows row xs
  first_same row [] here same first = first
  first_same row (x ∷ xs) here same first =
      (let there = same x (inl refl) in omega (arith, here, there, first.0), first_same row xs here (λ y found. same y (inr found)) first.1)

  pub ascends_same : (xs : List ℕ) → ((x : ℕ) → IsIn x xs → (entry_at new_rows x).latest ≡ (entry_at rows x).latest)
      → Ascends rows xs → Ascends new_rows xs
  ascends_same [] same up = up
  ascends_same (x ∷ xs) same up =
      (first_same x xs (same x (inl refl)) (λ y found. same y (inr found)) up.0, ascends_same xs (λ y found. same y (inr found)) up.1)
