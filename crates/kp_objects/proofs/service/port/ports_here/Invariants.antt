use Rattle.std.proofs.Common.{[], map}
use Rattle.kp_json.specs.Places.{elements_of}
use Rattle.kp_json.specs.Views.{place_of, elements_left}
use Rattle.kp_row_defs.specs.Rows.{ports_fault, rows_fault}
use Rattle.kp_event_defs.specs.ServiceText.{service_port_rows, service_port}
use Rattle.kp_objects.specs.SeenIds.{has_id}
use Rattle.kp_objects.proofs.PortSteps.{IsSoFar}
use Rattle.kp_objects.proofs.service.port.ports_here.Given as goal

-- the set has the names and protocols of the ports so far
abbrev pub invariant-loop-element : goal.invariant-loop-element
invariant-loop-element l =
    let faults = rows_fault service_port_rows in
    let elements = elements_of (place_of l.list) in
    IsSoFar faults (map service_port elements) (ports_fault faults [] elements) l.ports.items (elements_left l.element-iterator) (has_id l.seen)
