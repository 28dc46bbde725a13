use Rattle.std.proofs.Common.{take}
use Rattle.std.specs.Prelude.{Ok}
use Rattle.std.specs.List.{flat_map}
use Rattle.kp_run_defs.specs.LiveText.{refused_text}
use Rattle.kp_live.specs.Written.{Prints}
use Rattle.kp_live.proofs.parts.print_refused.Given as goal

-- the first lines were written
abbrev pub invariant-loop-line : goal.invariant-loop-line
invariant-loop-line g l =
    Prints {T = Unit {0}} (Ok tt) (flat_map refused_text (take l.line-index l.refused))
    (g.K.Sink.output l.initial.sink) (g.K.Sink.output l.sink)
