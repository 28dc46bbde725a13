use Rattle.std.proofs.Common.{◌≡◌, length}
use Rattle.kp_restore.specs.Steps.{no_chains, with_sections}
use Rattle.kp_restore.proofs.values.table_of.Given as goal

abbrev pub invariant-loop-section : goal.invariant-loop-section
invariant-loop-section l = with_sections l.table l.left ≡ with_sections no_chains l.fn.sections

abbrev pub decreases-loop-section : goal.decreases-loop-section
decreases-loop-section l = length l.left
