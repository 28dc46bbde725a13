-- A machine that takes a list's elements one by one, or stops.
use Rattle.std.specs.Prelude.{List, [], ◌∷◌, Option, Some, option_and_then}

-- the state after the elements, if the machine takes them all
abbrev pub run : {S X : Type 0} → (S → X → Option S) → S → List X → Option S
run step state [] = Some state
run step state (x ∷ xs) = option_and_then (λ next. run step next xs) (step state x)
