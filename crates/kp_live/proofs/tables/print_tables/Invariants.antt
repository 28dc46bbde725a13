use Rattle.std.proofs.Common.{take}
use Rattle.std.specs.Prelude.{Ok}
use Rattle.std.specs.List.{flat_map}
use Rattle.kp_restore_defs.specs.TableText.{table_text_of}
use Rattle.kp_live.specs.Written.{Prints}
use Rattle.kp_live.proofs.tables.print_tables.Given as goal

-- the tables of the first families were written
abbrev pub invariant-loop-family : goal.invariant-loop-family
invariant-loop-family g l =
    Prints {T = Unit {0}} (Ok tt)
    (flat_map (λ family. table_text_of family l.table.chains) (take l.family-index l.families))
    (g.K.Sink.output l.initial.sink) (g.K.Sink.output l.sink)
