use Rattle.std.proofs.Common.{ℕ, length}
use Rattle.kp_conntrack.specs.Laid.{IsLaid, kept_rows}
use Rattle.kp_conntrack.proofs.rows.drop_all.Given as goal

abbrev pub invariant-loop-row : goal.invariant-loop-row
invariant-loop-row l =
    (moment : ℕ) → IsLaid l.rows l.fn.order l.fn.index moment → IsLaid l.rows l.order l.index moment

abbrev pub decreases-loop-row : goal.decreases-loop-row
decreases-loop-row l = length (kept_rows l.order)
