use Rattle.std.proofs.Common.{take}
use Rattle.std.specs.Prelude.{Ok}
use Rattle.kp_run_defs.specs.LiveText.{journal_text}
use Rattle.kp_live.specs.Written.{Prints}
use Rattle.kp_live.proofs.parts.print_journal.Given as goal

-- the first events were written
abbrev pub invariant-loop-at : goal.invariant-loop-at
invariant-loop-at g l =
    Prints {T = Unit {0}} (Ok tt) (journal_text l.streams 1 (take l.at l.journal))
    (g.K.Sink.output l.initial.sink) (g.K.Sink.output l.sink)
