-- The Services that select a pod so far were added.
use Rattle.std.proofs.Common.{Some, take}
use Rattle.std.specs.List.{list_any}
use Rattle.kp_touch_defs.specs.Touches.{is_selected}
use Rattle.kp_store.specs.Touched.{AddsTo}
use Rattle.kp_store.proofs.touching.add_selecting_on.Given as goal

abbrev pub invariant-loop-pod : goal.invariant-loop-pod
invariant-loop-pod l =
    let found = take l.pod-index l.pod-items in
    AddsTo (λ k. list_any (λ p. is_selected l.objects (Some p.now) k) found) l.fn.touched l.touched
