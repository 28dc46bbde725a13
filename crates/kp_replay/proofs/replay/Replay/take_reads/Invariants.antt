use Rattle.std.proofs.Common.{◌≡◌, length}
use Rattle.std.specs.Prelude.{string_bytes}
use Rattle.std.specs.Vec.Iter.{into_iter_items, into_iter_len}
use Rattle.kp_replay.specs.Groups.{AreLater, WereRead, reads_line}
use Rattle.kp_replay.specs.Steps.{LosesNothing, standing_of}
use Rattle.kp_replay.proofs.StepLemmas.{printed_on}
use Rattle.kp_replay.proofs.replay.Replay.take_reads.Given as goal

-- the lines so far, with those that are left, are all
abbrev pub invariant-loop-read : goal.invariant-loop-read
invariant-loop-read l = record {
  lines : printed_on (string_bytes l.printed) (into_iter_items l.read-iterator) (standing_of l.self)
      ≡ reads_line l.fn.reads.items (standing_of l.initial.self);
  later : AreLater (into_iter_items l.read-iterator);
  read : WereRead (into_iter_items l.read-iterator) → WereRead l.fn.reads.items;
  kept : LosesNothing (standing_of l.initial.self) (standing_of l.self);
  left : into_iter_len l.read-iterator ≡ length (into_iter_items l.read-iterator);
}
