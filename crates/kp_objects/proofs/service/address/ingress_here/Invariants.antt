use Rattle.std.proofs.Common.{◌≡◌, ◌++◌, map}
use Rattle.std.specs.List.{filter_map}
use Rattle.kp_json.specs.Places.{elements_of}
use Rattle.kp_json.specs.Views.{place_of, elements_left}
use Rattle.kp_row_defs.specs.Rows.{first_in, rows_fault}
use Rattle.kp_event_defs.specs.ServiceText.{ingress_rows, ingress_address}
use Rattle.kp_objects.proofs.service.address.ingress_here.Given as goal

-- What was read so far, and what is read of the elements that are left, is what is read of all. None so far is at fault.
abbrev pub invariant-loop-element : goal.invariant-loop-element
invariant-loop-element l =
    (l.addresses.items ++ filter_map ingress_address (elements_left l.element-iterator) ≡ filter_map ingress_address (elements_of (place_of l.list)))
    × (first_in (map (rows_fault ingress_rows) (elements_left l.element-iterator)) ≡ first_in (map (rows_fault ingress_rows) (elements_of (place_of l.list))))
