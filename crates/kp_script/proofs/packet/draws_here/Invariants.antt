use Rattle.std.proofs.Common.{◌≡◌, ◌++◌, map}
use Rattle.kp_json.specs.Places.{elements_of}
use Rattle.kp_json.specs.Views.{place_of, elements_left}
use Rattle.kp_row_defs.specs.Rows.{first_in, rows_fault}
use Rattle.kp_text_defs.specs.ListedDraws.{AreLow}
use Rattle.kp_text_defs.specs.PacketText.{draw_from, draw_rows, draw_list}
use Rattle.kp_script.proofs.packet.draws_here.Given as goal

-- What was read so far, and what is read of the elements that are left, is what is read of all. None so far is at
-- fault, and all are low.
abbrev pub invariant-loop-element : goal.invariant-loop-element
invariant-loop-element l =
    (l.draws.items ++ map draw_from (elements_left l.element-iterator) ≡ draw_list (place_of l.list))
    × (first_in (map (rows_fault draw_rows) (elements_left l.element-iterator)) ≡ first_in (map (rows_fault draw_rows) (elements_of (place_of l.list))))
    × AreLow l.draws.items
