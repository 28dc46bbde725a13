-- The paths so far stay, and more come behind them.
use Rattle.std.proofs.Common.{◌≡◌, ◌||◌, ◌∷◌, ◌++◌, ℕ, List, true, drop}
use Rattle.std.specs.FinMap as finite
use Rattle.kp_base.specs.declared.key.ObjectKey.{ObjectKey}
use Rattle.kp_store.specs.LookUps.{selects_if}
use Rattle.kp_store.specs.Paths.{IsFound, IsSound, any_leads, has_tag}
use Rattle.kp_store.proofs.selecting.go_on.Given as goal

abbrev pub invariant-loop-place : goal.invariant-loop-place
invariant-loop-place l =
    ((more : List ℕ) × (l.paths.items ≡ l.initial.paths.items ++ more))
    × IsSound l.services l.pod l.initial.keys l.keys
    × ((k : ObjectKey) (rest : List ℕ) → selects_if l.pod (finite.get l.services k) ≡ true
    → IsFound l.services k l.initial.paths.items (l.number ∷ rest) l.initial.keys
    → finite.contains_key l.keys k || (any_leads (has_tag l.services k) l.paths.items rest || any_leads (has_tag l.services k) (drop l.place l.initial.paths.items) (l.number ∷ rest)) ≡ true)
