use Rattle.std.proofs.Common.{rules, ◌≡◌, Err, subst}
use Rattle.kp_run.specs.Stand.{EndsOrStops}
use Rattle.kp_run.specs.declared.ending.Stop.TheVariants as why
use Rattle.kp_run.proofs.EndLemmas.{ends_failed, ends_long, ends_wanted, ends_whole}
use Rattle.kp_run.proofs.ending.ended.Goals as goal

-- the whole text was written
pub returns-in-Ok : goal.returns-in-Ok
returns-in-Ok g c = λ t from to input all.
    let was = g.K.Sink.output c.args.sink.now in
    ends_whole t c.flushed.result from to input was (g.K.Sink.output c.flushed.new.sink)
    c.args.refused c.if_refused.result c.if_refused.ensures
    (subst (λ r. EndsOrStops t c.args.refused r from to input was) c.in-Ok.is all) c.flushed.ensures

-- memory was wanted
pub returns-in-Err-NoMemory : goal.returns-in-Err-NoMemory
returns-in-Err-NoMemory g c = λ t from to input all.
    let was = g.K.Sink.output c.args.sink.now in
    let is : c.args.all ≡ Err (why.NoMemory c.in-Err-NoMemory.wanted) = search rules in
    ends_wanted t c.handed_on.result from to input was (g.K.Sink.output c.handed_on.new.sink) c.in-Err-NoMemory.wanted
    (subst (λ r. EndsOrStops t c.args.refused r from to input was) is all) c.handed_on.ensures

-- a read failed
pub returns-in-Err-Read : goal.returns-in-Err-Read
returns-in-Err-Read g c = λ t from to input all.
    let was = g.K.Sink.output c.args.sink.now in
    let is : c.args.all ≡ Err why.Read = search rules in
    ends_failed t c.flushed-in-Err-Read.result from to input was (g.K.Sink.output c.flushed-in-Err-Read.new.sink)
    (subst (λ r. EndsOrStops t c.args.refused r from to input was) is all) c.flushed-in-Err-Read.ensures

-- the input was too long
pub returns-in-Err-InputTooLong : goal.returns-in-Err-InputTooLong
returns-in-Err-InputTooLong g c = λ t from to input all.
    let was = g.K.Sink.output c.args.sink.now in
    let is : c.args.all ≡ Err why.InputTooLong = search rules in
    ends_long t c.flushed-in-Err-InputTooLong.result from to input was (g.K.Sink.output c.flushed-in-Err-InputTooLong.new.sink)
    (subst (λ r. EndsOrStops t c.args.refused r from to input was) is all) c.flushed-in-Err-InputTooLong.ensures
