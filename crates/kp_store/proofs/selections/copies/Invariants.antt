-- Those so far were copied.
use Rattle.std.proofs.Common.{◌≡◌, map, take}
use Rattle.kp_store.proofs.selections.copies.Given as goal

abbrev pub invariant-loop-object : goal.invariant-loop-object
invariant-loop-object g l = l.copies.items ≡ map (λ x. x.now) (take l.object-index l.found)
