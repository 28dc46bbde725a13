use Rattle.std.proofs.Common.{◌≡◌, ◌++◌, map}
use Rattle.std.specs.List.{flat_map}
use Rattle.kp_json.specs.Places.{elements_of}
use Rattle.kp_json.specs.Views.{place_of, elements_left}
use Rattle.kp_row_defs.specs.Rows.{first_in, rows_fault}
use Rattle.kp_event_defs.specs.PodText.{container_rows, container_ports}
use Rattle.kp_objects.proofs.pod.spec.containers_here.Given as goal

-- What was read so far, and what is read of the elements that are left, is what is read of all. None so far is at fault.
abbrev pub invariant-loop-element : goal.invariant-loop-element
invariant-loop-element l =
    (l.ports.items ++ flat_map container_ports (elements_left l.element-iterator) ≡ flat_map container_ports (elements_of (place_of l.list)))
    × (first_in (map (rows_fault container_rows) (elements_left l.element-iterator)) ≡ first_in (map (rows_fault container_rows) (elements_of (place_of l.list))))
