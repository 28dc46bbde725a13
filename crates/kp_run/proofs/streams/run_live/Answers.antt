use Rattle.std.proofs.Common.{ap, inl, inr}
use Rattle.std.specs.Prelude.{Err}
use Rattle.kp_run.proofs.LiveLemmas.{other_of, live_whole, live_wanted, live_failed, live_long}
use Rattle.kp_run.proofs.streams.run_live.Goals as goal

pub returns-in-Ok : goal.returns-in-Ok
returns-in-Ok g c =
    live_whole c.flushed.result (g.S.Source.input c.args.source.now) (g.K.Sink.output c.args.sink.now)
    (g.S.Source.input c.live.new.source) (g.K.Sink.output c.live.new.sink) (g.K.Sink.output c.flushed.new.sink)
    c.in-Ok.refused c.if_refused.result c.if_refused.ensures c.in-Ok.ensures.whole
    (c.in-Ok.ensures.source_sure, c.in-Ok.ensures.sure) c.in-Ok.ensures.ended c.flushed.ensures

pub returns-in-Err-NoMemory : goal.returns-in-Err-NoMemory
returns-in-Err-NoMemory g c =
    let is = ap Err c.in-Err-NoMemory.field-0-is in
    live_wanted c.handed_on.result (g.S.Source.input c.args.source.now) (g.K.Sink.output c.args.sink.now)
    (g.S.Source.input c.live.new.source) (g.K.Sink.output c.live.new.sink) (g.K.Sink.output c.handed_on.new.sink)
    c.in-Err-NoMemory.refused c.in-Err-NoMemory.ensures.front (
      other_of c.in-Err-NoMemory.ensures.source_kept
          (λ e. let is = c.in-Err-NoMemory.field-0-is in absurd (cc)),
      c.in-Err-NoMemory.ensures.wanted c.in-Err-NoMemory.refused is,
    ) c.handed_on.ensures

pub returns-in-Err-ReadFault : goal.returns-in-Err-ReadFault
returns-in-Err-ReadFault g c =
    let is = ap Err c.in-Err-ReadFault.field-0-is in
    live_failed c.flushed-in-Err-ReadFault.result (g.S.Source.input c.args.source.now) (g.K.Sink.output c.args.sink.now)
    (g.S.Source.input c.live.new.source) (g.K.Sink.output c.live.new.sink)
    (g.K.Sink.output c.flushed-in-Err-ReadFault.new.sink) (c.in-Err-ReadFault.ensures.read is)
    (ap g.K.Sink.output (c.in-Err-ReadFault.ensures.unwritten (inl is))) c.flushed-in-Err-ReadFault.ensures

pub returns-in-Err-InputTooLong : goal.returns-in-Err-InputTooLong
returns-in-Err-InputTooLong g c =
    let is = ap Err c.in-Err-InputTooLong.field-0-is in
    live_long c.flushed-in-Err-InputTooLong.result (g.S.Source.input c.args.source.now) (g.K.Sink.output c.args.sink.now)
    (g.S.Source.input c.live.new.source) (g.K.Sink.output c.live.new.sink)
    (g.K.Sink.output c.flushed-in-Err-InputTooLong.new.sink) (c.in-Err-InputTooLong.ensures.long is)
    (other_of c.in-Err-InputTooLong.ensures.source_kept
    (λ e. let is = c.in-Err-InputTooLong.field-0-is in absurd (cc)))
    (ap g.K.Sink.output (c.in-Err-InputTooLong.ensures.unwritten (inr is))) c.flushed-in-Err-InputTooLong.ensures
