use Rattle.std.proofs.Common.{take, drop, length, get_or, ◌+◌}
use Rattle.kp_text_defs.specs.Live.{record_text}
use Rattle.kp_hub.specs.declared.notes.RecordNote.{RecordNote}
use Rattle.kp_live.specs.Runs.{notes_text}
use Rattle.kp_live.proofs.Printing.{next_note, prints_broken, prints_next, rest_notes}
use Rattle.kp_live.proofs.parts.print_records.Goals as goal

-- any note
none : RecordNote
none = record { events = 0; written = 0; removed = 0 }

-- one more record was written, or a front of it
pub loop-at-preserved : goal.loop-at-preserved
unfolding none
loop-at-preserved g c =
    let xs = c.args.notes.now in
    let i = c.loop-at.at in
    prints_next (notes_text 0 (take i xs))
    (record_text (i + 1) (get_or xs i none).events (get_or xs i none).written
    (get_or xs i none).removed)
    (notes_text 0 (take (i + 1) xs)) tt c.in-Ok.field-0 _ _ _
    (next_note xs i none c.loop-at-test.true) c.loop-at.invariant c.in-Ok.ensures

pub returns-in-Err : goal.returns-in-Err
unfolding none
returns-in-Err g c =
    let xs = c.args.notes.now in
    let i = c.loop-at.at in
    prints_broken (notes_text 0 (take i xs))
    (record_text (i + 1) (get_or xs i none).events (get_or xs i none).written
    (get_or xs i none).removed)
    (notes_text (0 + length (take (i + 1) xs)) (drop (i + 1) xs)) (notes_text 0 xs) tt
    c.in-Err.fault _ _ _ (rest_notes xs i none c.loop-at-test.true)
    c.loop-at.invariant c.in-Err.ensures
