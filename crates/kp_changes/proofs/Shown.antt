-- Lists and maps of references, as they are seen.
use Rattle.std.proofs.Common.{◌≡◌, ℕ, ◌+◌, ◌<◌, List, [], ◌∷◌, ◌++◌, map, flat_map, take, length, get_or, refl, sym, ap, ◌∙◌, append_assoc, append-nil, Bor}
use Rattle.std.specs.Map.Iter.{deref_pair}
use Rattle.std.proofs.lemmas.Grind.{flat_map-append}
use Rattle.std.proofs.lemmas.List.{take_more}
use Rattle.std.proofs.lemmas.List.Folds.{flat_map-map}

-- the keys of such a map
pub keys_shown : {K X : Type 0} (es : List (Bor K × Bor X))
    → map (λ k. k.now) (map (λ e. e.0) es) ≡ map (λ e. e.0) (map deref_pair es)
keys_shown [] = refl
keys_shown (e ∷ es) = ap (λ rest. e.0.now ∷ rest) (keys_shown es)

-- the piece of one more element
pub next_piece : {X Y : Type 0} (f : X → List Y) (xs : List X) (i : ℕ) (x : X)
    (start before now : List Y)
    → now ≡ before ++ f x → before ≡ start ++ flat_map f (take i xs)
    → i < length xs → x ≡ get_or xs i x → now ≡ start ++ flat_map f (take (i + 1) xs)
next_piece f xs i x start before now added so_far lt at =
    added ∙ ap (λ l. l ++ f x) so_far
    ∙ append_assoc start (flat_map f (take i xs)) (f x)
    ∙ ap (λ l. start ++ l) (sym more)
  where
    more : flat_map f (take (i + 1) xs) ≡ flat_map f (take i xs) ++ f x
    more =
        ap (flat_map f) (take_more xs i x lt ∙ ap (λ y. take i xs ++ y ∷ []) (sym at))
        ∙ flat_map-append f (take i xs) (x ∷ [])
        ∙ ap (λ l. flat_map f (take i xs) ++ l) (append-nil (f x))

-- and of one that is seen through a reference
pub next_seen : {X Y : Type 0} (f : X → List Y) (xs : List (Bor X)) (i : ℕ) (x : Bor X)
    (start before now : List Y)
    → now ≡ before ++ f x.now → before ≡ start ++ flat_map f (map (λ y. y.now) (take i xs))
    → i < length xs → x ≡ get_or xs i x
    → now ≡ start ++ flat_map f (map (λ y. y.now) (take (i + 1) xs))
next_seen f xs i x start before now added so_far lt at =
    next_piece (λ y. f y.now) xs i x start before now added
    (so_far ∙ ap (λ l. start ++ l) (flat_map-map f (λ y. y.now) (take i xs))) lt at
    ∙ ap (λ l. start ++ l) (sym (flat_map-map f (λ y. y.now) (take (i + 1) xs)))
