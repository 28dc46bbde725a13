use Rattle.std.proofs.Common.{◌≡◌, ◌++◌, length}
use Rattle.kp_restore.specs.Steps.{edits_in_sections}
use Rattle.kp_restore.proofs.values.batch_of.Given as goal

abbrev pub invariant-loop-section : goal.invariant-loop-section
invariant-loop-section l = l.edits.items ++ edits_in_sections l.left ≡ edits_in_sections l.fn.sections

abbrev pub decreases-loop-section : goal.decreases-loop-section
decreases-loop-section l = length l.left
