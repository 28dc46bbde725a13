use Rattle.std.proofs.Common.{◌≡◌, length}
use Rattle.kp_restore.specs.Steps.{with_rows}
use Rattle.kp_restore.proofs.values.put_rows.Given as goal

abbrev pub invariant-loop-row : goal.invariant-loop-row
invariant-loop-row l = with_rows l.which l.table l.left ≡ with_rows l.fn.which l.fn.table l.fn.left

abbrev pub decreases-loop-row : goal.decreases-loop-row
decreases-loop-row l = length l.left
