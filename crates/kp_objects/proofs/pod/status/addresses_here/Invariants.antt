use Rattle.std.proofs.Common.{◌≡◌, ◌++◌, map, codes}
use Rattle.std.specs.List.{filter_map}
use Rattle.kp_json.specs.Places.{elements_of}
use Rattle.kp_json.specs.Views.{place_of, elements_left}
use Rattle.kp_row_defs.specs.Rows.{first_in, rows_fault}
use Rattle.kp_row_defs.specs.Fields.{address_in}
use Rattle.kp_event_defs.specs.PodText.{pod_address_rows}
use Rattle.kp_objects.proofs.pod.status.addresses_here.Given as goal

-- What was read so far, and what is read of the elements that are left, is what is read of all. None so far is at fault.
abbrev pub invariant-loop-element : goal.invariant-loop-element
invariant-loop-element l =
    (l.addresses.items ++ filter_map (address_in (codes "ip")) (elements_left l.element-iterator) ≡ filter_map (address_in (codes "ip")) (elements_of (place_of l.list)))
    × (first_in (map (rows_fault pod_address_rows) (elements_left l.element-iterator)) ≡ first_in (map (rows_fault pod_address_rows) (elements_of (place_of l.list))))
