-- The place of the rarest pair is one of those before, or 0: no count so far is less than its own.
use Rattle.std.proofs.Common.{◌≡◌, ◌≤◌, ◌-◌, length}
use Rattle.kp_store.specs.Rarest.{counts}
use Rattle.kp_store.proofs.Rarest.{IsLeastAt}
use Rattle.kp_store.proofs.objects.Objects.rarest_pair.Given as goal

abbrev pub invariant-loop-pair : goal.invariant-loop-pair
invariant-loop-pair l =
    (l.place ≡ l.pair-index) × (l.rarest ≤ length l.service.selector - 1)
    × IsLeastAt (counts l.self.pods l.service) l.place l.rarest l.fewest
