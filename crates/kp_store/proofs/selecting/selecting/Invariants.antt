-- What is found selects the pod, and what selects it is found, or some path leads to it.
use Rattle.std.proofs.Common.{◌≡◌, true, drop}
use Rattle.std.specs.FinMap as finite
use Rattle.kp_base.specs.declared.key.ObjectKey.{ObjectKey}
use Rattle.kp_store.specs.LookUps.{selects_if}
use Rattle.kp_store.specs.Paths.{IsFound}
use Rattle.kp_store.proofs.selecting.selecting.Given as goal

abbrev pub invariant-loop-number : goal.invariant-loop-number
invariant-loop-number l =
    ((k : ObjectKey) → finite.contains_key l.keys k ≡ true → selects_if l.pod (finite.get l.services k) ≡ true)
    × ((k : ObjectKey) → selects_if l.pod (finite.get l.services k) ≡ true
    → IsFound l.services k l.paths.items (drop l.number-index l.number-items) l.keys)
