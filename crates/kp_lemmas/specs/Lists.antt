-- Words on lists that std has only in code.
use Rattle.std.specs.Prelude.{Bool, true, false, List, [], ◌∷◌, not}
use Rattle.std.specs.List.{filter}

-- whether a list has no elements
abbrev pub is_empty : {X : Type 0} → List X → Bool
is_empty [] = true
is_empty (x ∷ xs) = false

-- the elements that don't stand earlier in the list
abbrev pub first_places : {A : Type 0} → (A → A → Bool) → List A → List A
first_places same [] = []
first_places same (x ∷ xs) = x ∷ filter (λ y. not (same x y)) (first_places same xs)
