use Rattle.std.proofs.Common.{◌++◌, sym}
use Rattle.std.specs.List.{flat_map}
use Rattle.kp_run_defs.specs.LiveText.{journal_text, refused_text}
use Rattle.kp_streams.specs.Streams.{reading_in}
use Rattle.kp_live.specs.Runs.{head_text, notes_text}
use Rattle.kp_live.proofs.Printing.{prints_broken, prints_first, prints_three}
use Rattle.kp_live.proofs.parts.print_head.Goals as goal

-- the lines that were refused weren't written whole
pub returns-in-Err : goal.returns-in-Err
returns-in-Err g c =
    let r = reading_in c.args.lines.now in
    let done = c.args.done.now in
    prints_first (flat_map refused_text c.refused.result.now) (journal_text r.streams 1 done.journal)
    (notes_text 0 done.notes) (head_text r done.journal done.notes) c.in-Err.fault _ _
    (λ k. flat_map refused_text (sym c.refused.ensures k) ++ journal_text r.streams 1 done.journal
    ++ notes_text 0 done.notes)
    c.in-Err.ensures

-- the journal wasn't
pub returns-in-Err-print_journal : goal.returns-in-Err-print_journal
returns-in-Err-print_journal g c =
    let r = reading_in c.args.lines.now in
    let done = c.args.done.now in
    prints_broken (flat_map refused_text c.refused.result.now)
    (journal_text c.streams.result.now 1 c.as_slice.result.now) (notes_text 0 done.notes)
    (head_text r done.journal done.notes) c.in-Ok.field-0 c.in-Err-print_journal.fault
    _ _ _
    (λ k. flat_map refused_text (sym c.refused.ensures k)
    ++ journal_text (sym c.streams.ensures.names k) 1 (sym c.as_slice.ensures k)
    ++ notes_text 0 done.notes)
    c.in-Ok.ensures c.in-Err-print_journal.ensures

-- both were
pub returns : goal.returns
returns g c =
    let r = reading_in c.args.lines.now in
    let done = c.args.done.now in
    prints_three (flat_map refused_text c.refused.result.now)
    (journal_text c.streams.result.now 1 c.as_slice.result.now)
    (notes_text 0 c.as_slice-2.result.now) (head_text r done.journal done.notes) c.in-Ok.field-0
    c.in-Ok-print_journal.field-0 c.print_records.result _ _ _ _
    (λ k. flat_map refused_text (sym c.refused.ensures k)
    ++ journal_text (sym c.streams.ensures.names k) 1 (sym c.as_slice.ensures k)
    ++ notes_text 0 (sym c.as_slice-2.ensures k))
    c.in-Ok.ensures c.in-Ok-print_journal.ensures c.print_records.ensures
