use Rattle.std.proofs.Common.{◌≡◌, ◌++◌, map}
use Rattle.kp_json.specs.Places.{elements_of}
use Rattle.kp_json.specs.Views.{place_of, elements_left}
use Rattle.kp_row_defs.specs.Rows.{first_in, rows_fault}
use Rattle.kp_row_defs.specs.Fields.{address_at}
use Rattle.kp_event_defs.specs.ServiceText.{cluster_rows}
use Rattle.kp_objects.proofs.service.cluster.clusters_here.Given as goal

-- What was read so far, and what is read of the elements that are left, is what is read of all. None so far is at fault.
abbrev pub invariant-loop-element : goal.invariant-loop-element
invariant-loop-element l =
    (l.clusters.items ++ map address_at (elements_left l.element-iterator) ≡ map address_at (elements_of (place_of l.list)))
    × (first_in (map (rows_fault cluster_rows) (elements_left l.element-iterator)) ≡ first_in (map (rows_fault cluster_rows) (elements_of (place_of l.list))))
