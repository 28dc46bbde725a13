use Rattle.std.proofs.Common.{◌≡◌, length}
use Rattle.kp_restore.specs.Steps as spec
use Rattle.kp_restore.proofs.step.sought.Given as goal

-- what is sought among all is sought among those that are left
abbrev pub invariant-loop-row : goal.invariant-loop-row
invariant-loop-row l =
    spec.sought l.form l.done l.table l.declared l.passed.items l.left l.chain l.change
    ≡ spec.sought l.fn.form l.fn.done l.fn.body.table l.fn.body.declared l.fn.body.passed l.fn.body.left l.fn.chain l.fn.change

abbrev pub decreases-loop-row : goal.decreases-loop-row
decreases-loop-row l = length l.left
