use Rattle.std.proofs.Common.{◌≡◌, drop, length, take, vec_len}
use Rattle.kp_writer.specs.Refresh.{without}
use Rattle.kp_writer.specs.Written.{with_newest}
use Rattle.kp_writer.proofs.refresh.drop_all.Given as goal

-- the ports that were taken off the end are gone
abbrev pub invariant-loop-port : goal.invariant-loop-port
invariant-loop-port l = record {
  value : l.writer ≡ with_newest l.fn.writer
      (without l.fn.writer.newest (drop (length l.ports.items) l.fn.ports.items));
  left : l.ports.items ≡ take (length l.ports.items) l.fn.ports.items;
}

abbrev pub decreases-loop-port : goal.decreases-loop-port
decreases-loop-port l = vec_len l.ports
