-- The events so far have their origins.
use Rattle.std.proofs.Common.{◌≡◌, ◌+◌, ◌++◌, drop, length}
use Rattle.std.specs.Vec.Iter.{into_iter_items, into_iter_len}
use Rattle.kp_hub.specs.Taken.{fed_of}
use Rattle.kp_hub.proofs.intake.joined.Given as goal

abbrev pub invariant-loop-event : goal.invariant-loop-event
invariant-loop-event l = record {
  at : l.at + length (into_iter_items l.event-iterator) ≡ length l.origins;
  journal : l.journal.items ++ fed_of (drop l.at l.origins) (into_iter_items l.event-iterator) ≡ fed_of l.origins l.fn.events;
  left : into_iter_len l.event-iterator ≡ length (into_iter_items l.event-iterator);
}
