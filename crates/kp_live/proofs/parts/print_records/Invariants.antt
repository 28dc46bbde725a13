use Rattle.std.proofs.Common.{take}
use Rattle.std.specs.Prelude.{Ok}
use Rattle.kp_live.specs.Runs.{notes_text}
use Rattle.kp_live.specs.Written.{Prints}
use Rattle.kp_live.proofs.parts.print_records.Given as goal

-- the first records were written
abbrev pub invariant-loop-at : goal.invariant-loop-at
invariant-loop-at g l =
    Prints {T = Unit {0}} (Ok tt) (notes_text 0 (take l.at l.notes))
    (g.K.Sink.output l.initial.sink) (g.K.Sink.output l.sink)
