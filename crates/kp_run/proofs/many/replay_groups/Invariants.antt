use Rattle.std.proofs.Common.{◌+◌, ◌-◌}
use Rattle.kp_io.specs.declared.next_line.TheConstants.{INPUT_LIMIT}
use Rattle.kp_mode_defs.specs.Mode.{replaying}
use Rattle.kp_replay.specs.Steps.{standing_of}
use Rattle.kp_run.specs.Given.{anywhere}
use Rattle.kp_run.specs.Stand.{Stands}
use Rattle.kp_run.proofs.many.replay_groups.Given as goal

-- the program has come as far as the lines that were handed out
abbrev pub invariant-lines : goal.invariant-lines
invariant-lines g l =
    Stands replaying anywhere (g.S.Source.input l.initial.source) (g.K.Sink.output l.initial.sink)
    (standing_of l.replay) l.reader (g.S.Source.input l.source) (g.K.Sink.output l.sink)

-- no more lines come than bytes may be taken
abbrev pub decreases-lines : goal.decreases-lines
decreases-lines g l = INPUT_LIMIT + 2 - l.reader.number
