-- The pieces of the elements that pass a test.
use Rattle.std.proofs.Common.{◌≡◌, Bool, true, false, cond, not, List, [], ◌∷◌, ◌++◌, map, filter, flat_map, refl, ap, ◌∙◌}
use Rattle.std.proofs.lemmas.Grind.{flat_map-append}
use Rattle.std.proofs.lemmas.List.Elements.{filter-append}
use Rattle.std.proofs.lemmas.List.Folds.{flat_map-map}

module _ {X Y : Type 0} where
  -- each element gives its piece where it passes
  pub passed : (p : X → Bool) (f : X → List Y) (xs : List X)
      → flat_map f (filter p xs) ≡ flat_map (λ x. cond (p x) (f x) []) xs
  passed p f [] = refl
  passed p f (x ∷ xs) = by (p x) (passed p f xs)
    where
      by : (b : Bool) → flat_map f (filter p xs) ≡ flat_map (λ y. cond (p y) (f y) []) xs
          → flat_map f (cond b (x ∷ filter p xs) (filter p xs))
          ≡ cond b (f x) [] ++ flat_map (λ y. cond (p y) (f y) []) xs
      by true rest = ap (λ l. f x ++ l) rest
      by false rest = rest

  -- equal pieces together
  pub alike : (f g : X → List Y) → ((x : X) → f x ≡ g x) → (xs : List X)
      → flat_map f xs ≡ flat_map g xs
  alike f g same [] = refl
  alike f g same (x ∷ xs) = λ i. same x i ++ alike f g same xs i

  -- pieces of pieces
  pub inner : {Z : Type 0} (f : Y → List Z) (g : X → List Y) (xs : List X)
      → flat_map f (flat_map g xs) ≡ flat_map (λ x. flat_map f (g x)) xs
  inner f g [] = refl
  inner f g (x ∷ xs) =
      flat_map-append f (g x) (flat_map g xs) ∙ ap (λ l. flat_map f (g x) ++ l) (inner f g xs)

-- of elements that are made of others
pub made : {W X Y : Type 0} (p : X → Bool) (f : X → List Y) (g : W → X) (ws : List W)
    → flat_map f (filter p (map g ws)) ≡ flat_map (λ w. cond (p (g w)) (f (g w)) []) ws
made p f g ws = passed p f (map g ws) ∙ flat_map-map (λ x. cond (p x) (f x) []) g ws

-- of two lists together
pub both : {X Y : Type 0} (p : X → Bool) (f : X → List Y) (xs ys : List X)
    → flat_map f (filter p (xs ++ ys)) ≡ flat_map f (filter p xs) ++ flat_map f (filter p ys)
both p f xs ys =
    ap (flat_map f) (filter-append p xs ys) ∙ flat_map-append f (filter p xs) (filter p ys)

-- of those that another test leaves
pub left : {X Y : Type 0} (q : X → Bool) (f : X → List Y) (xs : List X)
    → flat_map f (filter (λ x. not (q x)) xs) ≡ flat_map (λ x. cond (q x) [] (f x)) xs
left q f xs = passed (λ x. not (q x)) f xs ∙ alike _ _ (λ x. turned (q x) (f x)) xs
  where
    turned : {Y : Type 0} (b : Bool) (piece : List Y)
        → cond (not b) piece [] ≡ cond b [] piece
    turned true piece = refl
    turned false piece = refl
