-- Tests of lists.
use Rattle.std.proofs.Common.{◌≡◌, Bool, ◌||◌, List, [], ◌∷◌, map, refl, ap}
use Rattle.std.specs.List.{list_any}

-- a test of some element of a mapped list
pub list_any_of_map : {X Y : Type 0} (test : X → Bool) (f : Y → X) (ys : List Y) → list_any test (map f ys) ≡ list_any (λ y. test (f y)) ys
list_any_of_map test f [] = refl
list_any_of_map test f (y ∷ ys) = ap (λ b. test (f y) || b) (list_any_of_map test f ys)
