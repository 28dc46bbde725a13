-- Pending keys of a tracker, worked out.
use Rattle.std.specs.Prelude.{◌==◌, ℕ, List, [], ◌∷◌, Some, None}
use Rattle.std.specs.Ordering.{nat_cmp}
use Rattle.kp_tracker.specs.Tracked.{IsPending, Tracked}

-- Keys 1, 2, 3 and 6 were published. Since then 1 has another value, 2 the same again, 3 none; 4,
-- which had none, has none; and 5 is new.
abbrev pub tracked : Tracked ℕ ℕ
tracked = record {
  entries = (1, 10) ∷ (2, 20) ∷ (3, 30) ∷ (6, 60) ∷ [];
  updates = (1, Some 11) ∷ (2, Some 20) ∷ (3, None) ∷ (4, None) ∷ (5, Some 50) ∷ [];
}

-- these keys are its pending ones
abbrev pub ArePending : List ℕ → Type 0
ArePending keys = IsPending nat_cmp (λ a b. a == b) tracked keys

-- The changed keys are pending,
abbrev pub ChangedArePending : Type 0
ChangedArePending = ArePending (1 ∷ 3 ∷ 5 ∷ [])

-- the one that lost its value among them,
abbrev pub WithoutLost : Type 0
WithoutLost = ArePending (1 ∷ 5 ∷ []) → ⊥

-- not the one that has its old value,
abbrev pub WithOld : Type 0
WithOld = ArePending (1 ∷ 2 ∷ 3 ∷ 5 ∷ []) → ⊥

-- and in order.
abbrev pub OutOfOrder : Type 0
OutOfOrder = ArePending (1 ∷ 5 ∷ 3 ∷ []) → ⊥
