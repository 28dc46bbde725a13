use Rattle.std.proofs.Common.{◌≡◌, ◌++◌, length}
use Rattle.kp_restore.proofs.left.Left.rewound.Given as goal

-- those that are passed stand before the others
abbrev pub invariant-loop-item : goal.invariant-loop-item
invariant-loop-item g l = l.passed.items ++ l.all ≡ l.fn.passed ++ l.fn.self

abbrev pub decreases-loop-item : goal.decreases-loop-item
decreases-loop-item g l = length l.passed.items
