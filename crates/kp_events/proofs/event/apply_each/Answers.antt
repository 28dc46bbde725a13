use Rattle.kp_json.specs.Views.{place_of, elements_left}
use Rattle.kp_events.proofs.EventSteps.{event_step}
use Rattle.kp_events.proofs.event.apply_each.Goals as goal

pub loop-element-preserved : goal.loop-element-preserved
loop-element-preserved c =
    event_step c.loop-element.events.items c.push.new.self.items c.in_ok-apply_of.field-0 (place_of c.in-Some.element)
    (elements_left c.loop-element.element-iterator) (elements_left c.next.new.self) _
    c.in-Some.ensures.steps c.in_ok-apply_of.ensures c.in_ok-push.ensures.items c.loop-element.invariant
