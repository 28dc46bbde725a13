-- Pieces of the lists of elements, with those of one more element.
use Rattle.std.proofs.Common.{◌≡◌, ◌+◌, ◌<◌, ℕ, List, [], ◌∷◌, ◌++◌, flat_map, get_or, length, take, append-nil, append_assoc, sym, ap, ◌∙◌}
use Rattle.std.proofs.lemmas.Grind.{flat_map-append}
use Rattle.std.proofs.lemmas.List.{take_more}

module _ {X Y Z : Type 0} (f : Y → List Z) (g : X → List Y) (xs : List X) (i : ℕ) (x : X) where
  abbrev all : List X → List Z
  all ys = flat_map f (flat_map g ys)

  joined : (ys zs : List X) → all (ys ++ zs) ≡ all ys ++ all zs
  joined ys zs = ap (flat_map f) (flat_map-append g ys zs) ∙ flat_map-append f (flat_map g ys) (flat_map g zs)

  pub added_more : i < length xs → x ≡ get_or xs i x → (old mid new : List Z)
      → mid ≡ old ++ all (take i xs) → new ≡ mid ++ flat_map f (g x)
      → new ≡ old ++ all (take (i + 1) xs)
  added_more fits is old mid new so_far adds =
      adds
      ∙ ap (λ l. l ++ flat_map f (g x)) so_far
      ∙ append_assoc old (all (take i xs)) (flat_map f (g x))
      ∙ ap (λ l. old ++ (all (take i xs) ++ flat_map f l)) (sym (append-nil (g x)))
      ∙ ap (λ l. old ++ l) (sym (joined (take i xs) (x ∷ [])))
      ∙ ap (λ y. old ++ all (take i xs ++ y ∷ [])) is
      ∙ ap (λ ys. old ++ all ys) (sym (take_more xs i x fits))
