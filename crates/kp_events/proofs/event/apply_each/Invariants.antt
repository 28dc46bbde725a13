use Rattle.std.proofs.Common.{◌≡◌}
use Rattle.kp_json.specs.Places.{elements_of}
use Rattle.kp_json.specs.Views.{place_of, elements_left}
use Rattle.kp_event_defs.specs.EventText.{apply_each}
use Rattle.kp_events.specs.Answers.{with_front}
use Rattle.kp_events.proofs.event.apply_each.Given as goal

-- The events so far, and what is read of the elements that are left, are what is read of all.
abbrev pub invariant-loop-element : goal.invariant-loop-element
invariant-loop-element l =
    (with_front l.events.items (apply_each (elements_left l.element-iterator)) ≡ apply_each (elements_of (place_of l.list)))
