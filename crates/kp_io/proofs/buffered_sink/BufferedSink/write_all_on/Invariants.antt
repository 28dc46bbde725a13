use Rattle.std.proofs.Common.{◌≡◌, [], length}
use Rattle.kp_io.specs.Buffered.{written_behind}
use Rattle.kp_io.specs.Told.{Grows}
use Rattle.kp_io.proofs.buffered_sink.BufferedSink.write_all_on.Given as goal

-- the bytes in all are those of before, and nothing is done where none are kept
abbrev pub invariant-loop-self : goal.invariant-loop-self
invariant-loop-self g l = record {
  grown :
      Grows (written_behind l.initial.self.kept (g.K.Sink.output l.initial.self.sink).written)
      (written_behind l.self.kept (g.K.Sink.output l.self.sink).written) [];
  unasked : l.initial.self.kept ≡ [] → l.self ≡ l.initial.self;
  same : (g.K.Sink.output l.self.sink).faults ≡ (g.K.Sink.output l.initial.self.sink).faults;
}

-- each write hands on at least one byte
abbrev pub decreases-loop-self : goal.decreases-loop-self
decreases-loop-self g l = length l.self.kept
