use Rattle.std.proofs.Common.{take, drop, length, get_or, [], ◌+◌}
use Rattle.kp_text_defs.specs.Live.{event_text}
use Rattle.kp_run_defs.specs.LiveText.{journal_text}
use Rattle.kp_live.proofs.Printing.{next_event, prints_broken, prints_next, rest_events}
use Rattle.kp_live.proofs.parts.print_journal.Goals as goal

-- one more event was written, or a front of it
pub loop-at-preserved : goal.loop-at-preserved
loop-at-preserved g c =
    let streams = c.args.streams.now in
    let xs = c.args.journal.now in
    let i = c.loop-at.at in
    let x = c.index-journal-at.result in
    prints_next (journal_text streams 1 (take i xs))
    (event_text (i + 1) (get_or streams x.feeder []) x.number x.event)
    (journal_text streams 1 (take (i + 1) xs)) tt c.in-Ok.field-0 _ _ _
    (next_event streams xs i x c.loop-at-test.true c.index-journal-at.is)
    c.loop-at.invariant c.in-Ok.ensures

pub returns-in-Err : goal.returns-in-Err
returns-in-Err g c =
    let streams = c.args.streams.now in
    let xs = c.args.journal.now in
    let i = c.loop-at.at in
    let x = c.index-journal-at.result in
    prints_broken (journal_text streams 1 (take i xs))
    (event_text (i + 1) (get_or streams x.feeder []) x.number x.event)
    (journal_text streams (1 + length (take (i + 1) xs)) (drop (i + 1) xs))
    (journal_text streams 1 xs) tt c.in-Err.fault _ _ _
    (rest_events streams xs i x c.loop-at-test.true c.index-journal-at.is)
    c.loop-at.invariant c.in-Err.ensures
