-- A search that goes element by element, where none was found so far.
use Rattle.std.proofs.Common.{◌≡◌, ℕ, zero, suc, Bool, List, [], ◌∷◌, ◌++◌, take, drop, flat_map, slice_get, Option, Some, None, ap, ◌∙◌}
use Rattle.std.specs.List.{find}
use Rattle.std.specs.Option.{option_or}
use Rattle.std.proofs.lemmas.Grind.{flat_map-append}
use Rattle.std.proofs.lemmas.List.Folds.{find-append}
use Rattle.std.proofs.lemmas.Option.{same_Some}

-- the elements up to a place and the one at it
pub one_more : {X : Type 0} (xs : List X) (i : ℕ) (x : X) → slice_get xs i ≡ Some x → take (suc i) xs ≡ take i xs ++ x ∷ []
one_more [] i x at = absurd (cc)
one_more (y ∷ xs) zero x at = ap (λ z. z ∷ []) (same_Some y x at)
one_more (y ∷ xs) (suc i) x at = ap (λ rest. y ∷ rest) (one_more xs i x at)

-- and those behind it
parted : {X : Type 0} (xs : List X) (i : ℕ) (x : X) → slice_get xs i ≡ Some x → xs ≡ take i xs ++ x ∷ drop (suc i) xs
parted [] i x at = absurd (cc)
parted (y ∷ xs) zero x at = ap (λ z. z ∷ xs) (same_Some y x at)
parted (y ∷ xs) (suc i) x at = ap (λ rest. y ∷ rest) (parted xs i x at)

-- the first of three lists that gives one
pub in_three : {D : Type 0} (p : D → Bool) (xs ys zs : List D) → find p (xs ++ ys ++ zs) ≡ option_or (option_or (find p xs) (find p ys)) (find p zs)
in_three p xs ys zs = find-append p (xs ++ ys) zs ∙ ap (λ o. option_or o (find p zs)) (find-append p xs ys)

module _ {X D : Type 0} (p : D → Bool) (f : X → List D) where
  abbrev pub in_all : List X → Option D
  in_all xs = find p (flat_map f xs)

  -- none so far, so the first is in an element or behind it
  behind : (front : List X) (x : X) (xs : List X) → in_all front ≡ None → in_all (front ++ x ∷ xs) ≡ option_or (find p (f x)) (in_all xs)
  behind front x xs none =
      ap (find p) (flat_map-append f front (x ∷ xs))
      ∙ find-append p (flat_map f front) (flat_map f (x ∷ xs))
      ∙ ap (λ o. option_or o (in_all (x ∷ xs))) none
      ∙ find-append p (f x) (flat_map f xs)

  -- one more element gives none
  pub none_more : (xs : List X) (i n : ℕ) (x : X) → n ≡ suc i → slice_get xs i ≡ Some x → find p (flat_map f (take i xs)) ≡ None → find p (f x) ≡ None → find p (flat_map f (take n xs)) ≡ None
  none_more xs i n x next at none here =
      ap (λ m. in_all (take m xs)) next
      ∙ ap in_all (one_more xs i x at)
      ∙ behind (take i xs) x [] none
      ∙ ap (λ o. option_or o None) here

  -- the first is in the first element that gives one
  pub found_here : (xs : List X) (i : ℕ) (x : X) (d : D) → slice_get xs i ≡ Some x → find p (flat_map f (take i xs)) ≡ None → find p (f x) ≡ Some d → find p (flat_map f xs) ≡ Some d
  found_here xs i x d at none here =
      ap in_all (parted xs i x at)
      ∙ behind (take i xs) x (drop (suc i) xs) none
      ∙ ap (λ o. option_or o (in_all (drop (suc i) xs))) here
