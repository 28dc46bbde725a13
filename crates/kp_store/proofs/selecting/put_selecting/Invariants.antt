-- The keys so far whose Services select the pod were put.
use Rattle.std.proofs.Common.{◌≡◌, ◌&&◌, ◌||◌, take}
use Rattle.std.specs.List.{list_any}
use Rattle.std.specs.Ordering.{eq_by_cmp}
use Rattle.std.specs.FinMap as finite
use Rattle.kp_base.specs.Keys.{key_cmp}
use Rattle.kp_base.specs.declared.key.ObjectKey.{ObjectKey}
use Rattle.kp_store.specs.LookUps.{selects_if}
use Rattle.kp_store.proofs.selecting.put_selecting.Given as goal

abbrev pub invariant-loop-key : goal.invariant-loop-key
invariant-loop-key l =
    (k : ObjectKey) → finite.contains_key l.keys k
    ≡ list_any (λ q. eq_by_cmp key_cmp k q.now && selects_if l.pod (finite.get l.services q.now)) (take l.key-index l.key-items)
    || finite.contains_key l.fn.keys k
