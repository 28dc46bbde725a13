use Rattle.std.proofs.Common.{◌≡◌, length, ◌-◌, ◌≤◌, take}
use Rattle.kp_io.specs.Told.{Grows}
use Rattle.kp_io.proofs.sink.write_whole.Given as goal

-- the bytes up to here were written, and the count is what it was
abbrev pub invariant-loop-done : goal.invariant-loop-done
invariant-loop-done g l = record {
  within : l.done ≤ length l.bytes;
  grown : Grows (g.K.Sink.output l.initial.sink).written (g.K.Sink.output l.sink).written (take l.done l.bytes);
  same : (g.K.Sink.output l.sink).faults ≡ (g.K.Sink.output l.initial.sink).faults;
}

abbrev pub decreases-loop-done : goal.decreases-loop-done
decreases-loop-done g l = length l.bytes - l.done
