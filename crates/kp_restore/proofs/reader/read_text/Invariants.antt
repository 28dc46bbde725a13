use Rattle.std.proofs.Common.{length}
use Rattle.kp_restore.specs.Reading.{IsRead}
use Rattle.kp_restore.specs.Steps.{start, step}
use Rattle.kp_restore.proofs.reader.read_text.Given as goal

-- the lines so far are taken, and they and the rest are the text
abbrev pub invariant-loop-line : goal.invariant-loop-line
invariant-loop-line l = IsRead l.fn.family (step l.fn.form) start l.fn.bytes l.so_far l.rest l.number

abbrev pub decreases-loop-line : goal.decreases-loop-line
decreases-loop-line l = length l.rest
