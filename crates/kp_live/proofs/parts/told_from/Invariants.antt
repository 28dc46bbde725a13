use Rattle.std.proofs.Common.{ℕ, List, ◌≡◌, length}
use Rattle.std.specs.Prelude.{IfSome, slice_get}
use Rattle.kp_live.specs.Told.{Told, HoldsOn}
use Rattle.kp_live.specs.Runs.{AreOf}
use Rattle.kp_live.proofs.parts.told_from.Given as goal

-- the answers of the first streams
abbrev pub invariant-loop-own : goal.invariant-loop-own
invariant-loop-own l = record {
  count : length l.told.items ≡ l.own-index;
  each : (told : ℕ → List Told) → AreOf told l.answers
      → (i : ℕ) → IfSome (slice_get l.told.items i) (λ t. HoldsOn t (told i));
}
