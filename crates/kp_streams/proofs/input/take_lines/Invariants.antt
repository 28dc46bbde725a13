use Rattle.std.proofs.Common.{◌≡◌, ◌+◌, ◌-◌}
use Rattle.kp_io.specs.declared.chunk.TheConstants.{BUFFER_SIZE}
use Rattle.kp_io.specs.declared.next_line.TheConstants.{INPUT_LIMIT}
use Rattle.kp_streams.specs.Streams.{reading_in}
use Rattle.kp_streams.specs.WholeInput.{HasRead}
use Rattle.kp_streams.proofs.input.take_lines.Given as goal

-- what the reader gave was read, and no read has failed
abbrev pub invariant-lines : goal.invariant-lines
invariant-lines g l = record {
  read : HasRead (reading_in l.lines) l.reader (g.S.Source.input l.initial.source).left
      (g.S.Source.input l.source).left;
  sure : (g.S.Source.input l.source).faults ≡ (g.S.Source.input l.initial.source).faults;
}

-- no more lines come than bytes may be taken
abbrev pub decreases-lines : goal.decreases-lines
decreases-lines g l = INPUT_LIMIT + BUFFER_SIZE - l.reader.number
