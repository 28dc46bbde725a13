-- The first of those that pass is the first that does.
use Rattle.std.proofs.Common.{◌≡◌, Bool, true, false, cond, List, [], ◌∷◌, filter, Some, slice_get, refl}
use Rattle.std.specs.List.{find}

-- the first of a filtered list
pub first_of_filter : {A : Type 0} (p : A → Bool) (xs : List A)
    → slice_get (filter p xs) 0 ≡ find p xs
first_of_filter p [] = refl
first_of_filter p (x ∷ xs) = by (p x) (first_of_filter p xs)
  where
    by : (b : Bool) → slice_get (filter p xs) 0 ≡ find p xs
        → slice_get (cond b (x ∷ filter p xs) (filter p xs)) 0 ≡ cond b (Some x) (find p xs)
    by true more = refl
    by false more = more
