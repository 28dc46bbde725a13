use Rattle.kp_json.specs.Views.{place_of, elements_left}
use Rattle.kp_objects.specs.SeenIds.{has_id}
use Rattle.kp_objects.proofs.PortSteps.{port_step}
use Rattle.kp_objects.proofs.service.port.ports_here.Goals as goal

pub loop-element-preserved : goal.loop-element-preserved
loop-element-preserved c =
    port_step _ _ _ c.loop-element.ports.items c.push.new.self.items c.in_ok-port.port (place_of c.in-Some.element)
    (elements_left c.loop-element.element-iterator) (elements_left c.next.new.self) (has_id c.loop-element.seen) (has_id c.add.new.self)
    c.in_ok-add.field-0 c.in-Some.ensures.steps c.in_ok-port.ensures c.in_ok-add.ensures.new c.if-not-branch.false
    c.in_ok-add.ensures.added c.in_ok-push.ensures.items c.loop-element.invariant
