use Rattle.std.proofs.Common.{◌≡◌, ◌++◌, map}
use Rattle.std.specs.List.{filter_map}
use Rattle.kp_json.specs.Places.{elements_of}
use Rattle.kp_json.specs.Views.{place_of, elements_left}
use Rattle.kp_row_defs.specs.Rows.{first_in, rows_fault}
use Rattle.kp_event_defs.specs.ServiceText.{family_at, family_rows}
use Rattle.kp_objects.proofs.service.cluster.families_here.Given as goal

-- What was read so far, and what is read of the elements that are left, is what is read of all. None so far is at fault.
abbrev pub invariant-loop-element : goal.invariant-loop-element
invariant-loop-element l =
    (l.families.items ++ filter_map family_at (elements_left l.element-iterator) ≡ filter_map family_at (elements_of (place_of l.list)))
    × (first_in (map (rows_fault family_rows) (elements_left l.element-iterator)) ≡ first_in (map (rows_fault family_rows) (elements_of (place_of l.list))))
