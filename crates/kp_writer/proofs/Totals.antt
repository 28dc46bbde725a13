-- One element more among those that were counted, and among those that were folded.
use Rattle.std.proofs.Common.{◌≡◌, ℕ, ◌+◌, ◌<◌, ◌≤◌, arith, List, [], ◌∷◌, ◌++◌, map, take, drop}
use Rattle.std.proofs.Common.{flat_map, length, get_or, append-nil, sym, ap, ◌∙◌}
use Rattle.std.specs.List.{fold}
use Rattle.std.proofs.lemmas.List.{map-append, take_more, take-append-drop}
use Rattle.std.proofs.lemmas.List.Concat.{flat_map-append}
use Rattle.std.proofs.lemmas.List.Sums.{fold-append}

module _ {A P : Type 0} (show : A → P) (xs : List A) (k : ℕ) (x : A) (lt : k < length xs)
    (at : x ≡ get_or xs k x) where
  one_more : take (k + 1) xs ≡ take k xs ++ x ∷ []
  one_more = take_more xs k x lt ∙ ap (λ y. take k xs ++ y ∷ []) (sym at)

  shown : map show (take (k + 1) xs) ≡ map show (take k xs) ++ show x ∷ []
  shown = ap (map show) one_more ∙ map-append show (take k xs) (x ∷ [])

  -- a fold with the next element's parts
  pub fold_parts : {S R : Type 0} (f : S → R → S) (g : P → List R) (start now new : S)
      → now ≡ fold f start (flat_map g (map show (take k xs))) → new ≡ fold f now (g (show x))
      → new ≡ fold f start (flat_map g (map show (take (k + 1) xs)))
  fold_parts f g start now new so_far more =
      more
      ∙ ap (λ s. fold f s (g (show x))) so_far
      ∙ sym (fold-append f start (flat_map g (map show (take k xs))) (g (show x)))
      ∙ ap (λ r. fold f start (flat_map g (map show (take k xs)) ++ r)) (sym (append-nil (g (show
      x))))
      ∙ ap (fold f start) (sym (flat_map-append g (map show (take k xs)) (show x ∷ [])))
      ∙ ap (λ ps. fold f start (flat_map g ps)) (sym shown)

  -- a fold with the next element
  pub fold_next : {S : Type 0} (f : S → P → S) (start now new : S)
      → now ≡ fold f start (map show (take k xs)) → new ≡ f now (show x)
      → new ≡ fold f start (map show (take (k + 1) xs))
  fold_next f start now new so_far more =
      more
      ∙ ap (λ s. f s (show x)) so_far
      ∙ sym (fold-append f start (map show (take k xs)) (show x ∷ []))
      ∙ ap (fold f start) (sym shown)

  module _ (total : List P → ℕ)
      (parts : (ps qs : List P) → total (ps ++ qs) ≡ total ps + total qs) where
    -- the total of the elements so far and the next
    pub next_total : total (map show (take (k + 1) xs))
        ≡ total (map show (take k xs)) + total (show x ∷ [])
    next_total = ap total shown ∙ parts (map show (take k xs)) (show x ∷ [])

    -- it is at most that of all
    pub part_total : total (map show (take k xs)) + total (show x ∷ []) ≤ total (map show xs)
    part_total =
        omega (
          arith,
          next_total,
          ap (λ ys. total (map show ys)) (take-append-drop (k + 1) xs),
          ap total (map-append show (take (k + 1) xs) (drop (k + 1) xs)),
          parts (map show (take (k + 1) xs)) (map show (drop (k + 1) xs)),
        )
