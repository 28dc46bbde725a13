-- The events so far were applied.
use Rattle.std.proofs.Common.{◌≡◌, take}
use Rattle.kp_object_defs.specs.Objects.{objects_after}
use Rattle.kp_store.proofs.objects.Objects.from_events.Given as goal

abbrev pub invariant-loop-event : goal.invariant-loop-event
invariant-loop-event l = l.objects ≡ objects_after (take l.event-index l.events)
