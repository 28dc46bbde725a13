-- The Services of the keys so far were added.
use Rattle.std.proofs.Common.{take, Bor}
use Rattle.std.specs.List.{list_any}
use Rattle.std.specs.Ordering.{eq_by_cmp}
use Rattle.kp_base.specs.Keys.{key_cmp}
use Rattle.kp_base.specs.declared.key.ObjectKey.{ObjectKey}
use Rattle.kp_store.specs.Touched.{AddsTo}
use Rattle.kp_plane.proofs.collected.add_keys.Given as goal

abbrev pub invariant-loop-key : goal.invariant-loop-key
invariant-loop-key l =
    AddsTo (λ k. list_any (λ (q : Bor ObjectKey). eq_by_cmp key_cmp k q.now)
    (take l.key-index l.keys)) l.fn.touched l.touched
