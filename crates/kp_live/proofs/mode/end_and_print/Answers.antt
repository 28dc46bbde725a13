use Rattle.std.proofs.Common.{ap, sym, subst, ◌∙◌, length}
use Rattle.std.proofs.lemmas.List.{length-map}
use Rattle.kp_hub.specs.Known.{uncounted}
use Rattle.kp_hub.specs.State.{first_table}
use Rattle.kp_streams.specs.Streams.{reading_in}
use Rattle.kp_live.specs.Runs.{AreOf}
use Rattle.kp_live.proofs.Closing.{ended_queues, ends_run, handed}
use Rattle.kp_live.proofs.Together.{written_back}
use Rattle.kp_live.proofs.mode.end_and_print.Goals as goal

-- the feeders are of the hub's queue
pub finish-requires : goal.finish-requires
finish-requires g c = record {
  passes =
      ended_queues g.J.Publication.start (reading_in c.args.lines.now) g.J.Sharing.queue
      g.J.Sharing.streams c.args.ended.feeders c.args.ended.workers.items
      c.args.ended.answers.items c.requires.ended;
}

-- the text of a legal run was written
pub returns : goal.returns
returns g c =
    let r = reading_in c.args.lines.now in
    let ended = c.args.ended in
    let done = c.in-Ok.done in
    let by = c.in-Ok.ensures in
    ends_run r g.J.Publication.start g.J.Sharing.queue g.J.Sharing.streams ended.feeders
    ended.workers.items ended.answers.items done.journal done.notes done.refusals done.clash
    done.table (c.requires.start ∙ ap first_table (sym c.requires.config)) c.requires.streams
    c.requires.ended
    (handed r g.J.Sharing.config g.J.Sharing.streams ended.feeders ended.workers.items
    c.as_mut_slice.result.now c.as_mut_slice-2.result.now done.journal done.notes done.refusals
    done.clash done.table c.requires.config c.as_mut_slice.ensures.value
    (c.as_mut_slice-2.ensures.value
    ∙ written_back c.finish.new.workers ended.workers.items c.as_mut_slice.result.now
    ended.workers.len c.as_mut_slice.ensures.len
    (ap (λ l. length l) by.workers ∙ length-map c.as_mut_slice.result.now uncounted)
    ∙ by.workers) by.end by.order by.whole by.made by.accepted by.refused c.meet.ensures)
    c.exact_tables.ensures.full c.product_decides.ensures _ _ c.print-printed.result
    (λ told of. c.print-printed.ensures.printed told
    (subst (AreOf told) (sym c.as_slice.ensures.value) of))
    (λ told of. c.print-printed.ensures.refused told
    (subst (AreOf told) (sym c.as_slice.ensures.value) of))
