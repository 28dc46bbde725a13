-- Keys that are added piece by piece.
use Rattle.std.proofs.Common.{◌≡◌, ℕ, ◌+◌, ◌<◌, List, [], ◌∷◌, ◌++◌, take, length, get_or, flat_map, append-nil, append_assoc, sym, ap, ◌∙◌}
use Rattle.std.proofs.lemmas.Grind.{flat_map-append}
use Rattle.std.proofs.lemmas.List.{take_more}

-- one more piece
pub next_piece : {A B : Type 0} (f : A → List B) (xs : List A) (k : ℕ) (d : A)
    (start before now : List B) → k < length xs → before ≡ start ++ flat_map f (take k xs)
    → now ≡ before ++ f (get_or xs k d) → now ≡ start ++ flat_map f (take (k + 1) xs)
next_piece f xs k d start before now lt so_far added =
    added
    ∙ ap (λ r. r ++ f (get_or xs k d)) so_far
    ∙ append_assoc start (flat_map f (take k xs)) (f (get_or xs k d))
    ∙ ap (λ r. start ++ (flat_map f (take k xs) ++ r)) (sym (append-nil (f (get_or xs k d))))
    ∙ ap (λ r. start ++ r) (sym (flat_map-append f (take k xs) (get_or xs k d ∷ []))
    ∙ ap (flat_map f) (sym (take_more xs k d lt)))
