-- Numbers within their bounds.
use Rattle.std.proofs.Common.{◌≡◌, ◌≤◌, ℕ, max, ap, ◌∙◌}
use Rattle.std.proofs.Math.Nat.{min-eq_right, max-eq_right}
use Rattle.kp_text_defs.specs.Bounds.{between}

-- such a number stays
pub between_same : (least most n : ℕ) → least ≤ n → n ≤ most → between least most n ≡ n
between_same least most n from to = ap (λ k. max least k) (min-eq_right to) ∙ max-eq_right from
